pub mod LogLaws
pub mod GatherLaws
pub mod UnderKeys
pub mod RegionLaws
