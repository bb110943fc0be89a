pub mod PoolLaws
pub mod Joined
pub mod Pairs
pub mod ShelfLaws
pub mod HeadLaws
