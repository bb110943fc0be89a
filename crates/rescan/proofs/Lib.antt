pub mod counted
pub mod followed
pub mod moved
pub mod queued
pub mod unvisited
