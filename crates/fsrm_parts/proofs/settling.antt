pub mod NoteLaws
pub mod SettledRows
pub mod LimitLaws
pub mod ClimbNotes
pub mod SettledLaws
pub mod OrderlyQuotas
