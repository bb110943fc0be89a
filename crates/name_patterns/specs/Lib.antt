pub mod Folded
pub mod Ends
pub mod Met
