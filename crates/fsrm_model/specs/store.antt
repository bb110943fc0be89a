pub mod Capacities
pub mod Valid
pub mod ValidScans
pub mod Valued
pub mod Lasting
pub mod Replays
pub mod OldReplays
