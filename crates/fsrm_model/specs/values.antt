pub mod Limits
pub mod Space
pub mod Name
pub mod Patterns
pub mod Texts
pub mod Date
