pub mod StateLaws
pub mod SessionLaws
pub mod Worth
pub mod Pinned
