pub mod operations
pub mod steps
pub mod tables
pub mod coming
pub mod settling
pub mod judging
pub mod applied
