-- The logarithm between two squarings.
pub mod Squaring
