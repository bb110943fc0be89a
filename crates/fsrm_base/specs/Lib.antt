pub mod Keyed
pub mod Order
pub mod Places
pub mod Numbers
pub mod Causes
pub mod Lends
