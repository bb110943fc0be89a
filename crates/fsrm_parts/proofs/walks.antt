pub mod PathTexts
pub mod TaskLaws
pub mod WalkLaws
pub mod SumLaws
pub mod PlaceLaws
pub mod FoundLaws
pub mod VacantLaws
