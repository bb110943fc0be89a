pub mod Ranks
pub mod Files
pub mod Quotas
pub mod Doubles
pub mod Worked
pub mod Marks
