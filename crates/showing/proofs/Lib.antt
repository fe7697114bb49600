pub mod ShowLaws
pub mod Pinned
