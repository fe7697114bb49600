pub mod StepLaws
pub mod AnewLaws
pub mod StrikeLaws
pub mod Pinned
