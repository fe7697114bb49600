-- What the contracts of `steps` cite, and the laws that their proofs use.
--
--   Working        `held`, the system that a working mean belongs to
--   Step, Sweep, Sweeps      the contracts, a record each for what is asked and what is given
--   Held           residues follow a change of one part
--   StepSizes      the sizes of what a step computes
pub mod Working
pub mod Held
pub mod Step
pub mod StepSizes
pub mod Sweep
pub mod Sweeps
