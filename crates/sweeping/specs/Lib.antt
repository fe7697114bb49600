pub mod Sweeps
pub mod SweepLaws
pub mod SweepCall
