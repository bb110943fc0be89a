pub mod WorkedRows
pub mod WorkedThresholds
pub mod WorkedScreens
pub mod WorkedTemplates
pub mod WorkedReports
pub mod ValidRows
pub mod WorkedReplays
