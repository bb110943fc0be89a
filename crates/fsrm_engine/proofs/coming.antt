pub mod SourceLaws
pub mod OneComes
pub mod MadeQuota
pub mod MovedQuota
pub mod CarriedLaws
pub mod MemoryLaws
