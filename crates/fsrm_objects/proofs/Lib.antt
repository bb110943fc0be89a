pub mod QuotaRows
pub mod FaultLaws
pub mod RunRows
pub mod ScreenRows
pub mod JobRows
