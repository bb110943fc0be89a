pub mod JudgedLaws
pub mod NotedLaws
pub mod MarkedNotes
pub mod BlockLaws
pub mod DoneLaws
pub mod NameLaws
