pub mod Blocked
pub mod Way
pub mod Kept
