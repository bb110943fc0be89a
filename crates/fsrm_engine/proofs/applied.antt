pub mod ComingRows
pub mod ReceiveLaws
pub mod DerivedLaws
pub mod AutoLaws
