-- What a reading of a field finds.
pub mod Fields
