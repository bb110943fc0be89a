pub mod StepLaws
pub mod WholeLaws
pub mod ActLaws
pub mod ScanSteps
pub mod FinishLaws
pub mod FlaggedParts
pub mod RestoredLaws
