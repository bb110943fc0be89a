pub mod BitLaws
pub mod PlaceLaws
pub mod SlotLaws
pub mod KeyLaws
pub mod SumLaws
pub mod TableLaws
