pub mod CentralLaws
pub mod ProjectLaws
pub mod Pinned
