-- What the contracts of `figures` cite, and the laws that their proofs use.
--   Weights, Entries, Sums            the contracts: own weights and sums of g, matrix, right-hand side
--   EntryLaws, SumLaws                what their loops go by
--   Agree                             the arrays give the own weights, matrix and right-hand side of every chain that they hold
--   Gathered                          the contract of the whole; arrays inside their limits give each function what it asks
pub mod Weights
pub mod Entries
pub mod EntryLaws
pub mod Sums
pub mod SumLaws
pub mod Agree
pub mod Gathered
