pub mod kept
pub mod slotted
pub mod late
