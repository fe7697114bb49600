pub mod Bits
pub mod Squarings
