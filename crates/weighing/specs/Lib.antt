pub mod Weighs
pub mod Bytes
