pub mod LineFaults
pub mod PathOption
pub mod TaskOption
