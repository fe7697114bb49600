pub mod Value
pub mod Pinned
