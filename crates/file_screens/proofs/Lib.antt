pub mod NameLaws
pub mod FolderLaws
pub mod WayLaws
pub mod JudgeLaws
