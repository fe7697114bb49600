pub mod Strikes
pub mod Steps
pub mod StepLaws
pub mod Anew
