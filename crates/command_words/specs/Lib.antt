pub mod LineFaults
pub mod Lengths
pub mod Taking
pub mod OptionWords
pub mod KeptLaws
pub mod ActionParts
pub mod Numerals
