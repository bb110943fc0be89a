pub mod FoldLaws
pub mod TailLaws
pub mod StarLaws
pub mod EndLaws
