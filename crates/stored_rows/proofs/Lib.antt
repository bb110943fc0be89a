pub mod Copied
pub mod Filled
pub mod Unrefused
