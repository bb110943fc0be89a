pub mod OptionTests
pub mod CounterLaws
pub mod Refusals
pub mod ClimbLaws
pub mod ChargeLaws
pub mod Meetings
pub mod Deepest
