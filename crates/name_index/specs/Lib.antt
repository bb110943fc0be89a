pub mod Buckets
pub mod Hash
pub mod Index
