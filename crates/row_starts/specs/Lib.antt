pub mod Starts
pub mod Pinned
