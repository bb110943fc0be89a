pub mod Shown
pub mod WalkLaws
pub mod OutsideLaws
