pub mod Following
pub mod Leaving
pub mod Lengths
pub mod Queues
pub mod Touching
pub mod Turning
pub mod Visiting
