pub mod FindLaws
pub mod PathLaws
pub mod MoveLaws
pub mod StayLaws
