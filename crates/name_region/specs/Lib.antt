pub mod Contents
pub mod Log
pub mod Keys
pub mod Kept
