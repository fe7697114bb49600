pub mod Shows
pub mod Shown
pub mod Mirrored
pub mod ShowCall
