pub mod Command
pub mod Taking
pub mod Numbers
pub mod Modes
pub mod Worked
