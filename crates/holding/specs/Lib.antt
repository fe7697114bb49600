pub mod Decided
pub mod State
pub mod Bounds
pub mod Fitted
pub mod Reached
pub mod Passing
