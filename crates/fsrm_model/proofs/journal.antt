pub mod Alike
pub mod AlikeSteps
pub mod EntryLaws
pub mod FinishLaws
pub mod KeptEnds
pub mod KeptQuotas
pub mod OldLaws
pub mod WholeLaws
