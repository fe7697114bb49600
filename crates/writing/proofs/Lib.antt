pub mod WriteLaws
pub mod Pinned
