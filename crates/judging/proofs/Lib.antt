pub mod JudgeLaws
pub mod MeanOfRecord
pub mod Pinned
