pub mod PartLaws
pub mod HeldLaws
pub mod UpdateLaws
pub mod ReachedLaws
