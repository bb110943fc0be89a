pub mod CountLaws
pub mod FitLaws
pub mod ResizeLaws
