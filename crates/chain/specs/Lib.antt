-- What the contracts of `chain` cite, and the laws that their proofs use.
--
--   Arrays         what the code's arrays stand for: `figures_of`, `mean_of`
--   Fitting        the figures and means that 64 bits suffice for
--   Decides        an answer that tells whether something holds
--   Verdict        a judgement in the words of the definitions
--   Residues, Judge      the contracts, a record each for what is asked and what is given
--   AcceptedFits   the figures of an accepted file fit, and its prior means are inside the limits
--   Sizes          the sizes of what the code computes
--   Turned         an array that is rewritten from the front
pub mod Arrays
pub mod Decides
pub mod Fitting
pub mod Judge
pub mod Residues
pub mod Sizes
pub mod Turned
pub mod Verdict
