pub mod Filters
pub mod Files
pub mod Groups
pub mod Reports
