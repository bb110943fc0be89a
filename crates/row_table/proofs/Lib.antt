pub mod HeldLaws
pub mod IndexLaws
pub mod OrderLaws
pub mod PoolLaws
pub mod TableLaws
