pub mod Digits
pub mod Added
