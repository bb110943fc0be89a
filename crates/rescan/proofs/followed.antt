pub mod ChangeLaws
pub mod FollowLaws
pub mod FrontierLaws
pub mod KindLaws
pub mod LeafLaws
