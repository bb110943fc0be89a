pub mod ChildLaws
pub mod EnterLaws
pub mod FindLaws
pub mod SetLaws
pub mod StandingLaws
pub mod Tops
pub mod VisitLaws
