pub mod Slots
pub mod Views
pub mod Table
pub mod Rows
pub mod Kept
