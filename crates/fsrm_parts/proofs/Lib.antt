pub mod applied
pub mod settling
pub mod tables
pub mod walks
