-- Which screen judges a name, and what it leaves.
pub mod EntryLaws
pub mod JudgingLaws
pub mod NearerLaws
pub mod ScreenRuns
