pub mod RecordSteps
pub mod MeanOfRecord
