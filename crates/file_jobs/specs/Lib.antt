pub mod Expired
pub mod Moves
