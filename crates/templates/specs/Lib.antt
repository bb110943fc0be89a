pub mod Held
pub mod Faults
pub mod Kept
pub mod Reached
