pub mod Formats
pub mod Laws
pub mod Pieces
pub mod Readers
pub mod Writers
