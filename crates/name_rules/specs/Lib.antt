pub mod Fronts
pub mod Parts
pub mod PathFaults
pub mod Prefix
