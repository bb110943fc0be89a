pub mod Each
pub mod Moments
pub mod Sent
