pub mod Counters
pub mod Charge
pub mod Climb
