pub mod WeighLaws
pub mod Pinned
