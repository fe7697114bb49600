-- What the contracts of `differences` cite, and the laws that their proofs use.
--   Differences       the contracts
--   DifferenceLaws    what is read is what a session keeps; sizes; the sums make the definitions' residues
pub mod Differences
