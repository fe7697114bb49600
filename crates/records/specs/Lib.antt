-- Mean records: written and read back.
pub mod Records
pub mod Parse
