pub mod FreshLaws
pub mod FromRows
pub mod HoleLaws
pub mod WayLaws
