pub mod Spelled
pub mod Making
