pub mod Draws
pub mod Lines
pub mod Tally
pub mod Summary
pub mod Worked
pub mod Rest
