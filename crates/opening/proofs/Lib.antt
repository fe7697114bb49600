pub mod OpenLaws
pub mod OpenCall
pub mod Pinned
