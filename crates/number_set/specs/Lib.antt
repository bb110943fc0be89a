pub mod Levels
pub mod Numbers
pub mod Smaller
pub mod Words
