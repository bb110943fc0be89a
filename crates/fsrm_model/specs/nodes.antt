pub mod Tree
pub mod Fresh
pub mod FileOps
pub mod Leads
