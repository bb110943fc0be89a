pub mod Runs
pub mod Places
pub mod Tight
pub mod Pool
pub mod Heads
