pub mod QuoteCounts
pub mod Lines
pub mod NamedWords
pub mod NeededOptions
