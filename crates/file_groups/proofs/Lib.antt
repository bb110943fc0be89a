pub mod PartLaws
pub mod GroupLaws
