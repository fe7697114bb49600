-- What the contracts of `observations` cite, and the laws that their proofs use.
--   Arrays                 the arrays: their places, and what a session that has them keeps
--   HoldsChain             the chain that they hold
--   Reading, Ratios, Means the contracts: a file read into them, the weights of the ratios, the prior means as a mean
--   ReadLaws, RatioLaws    what their loops go by
--   Strikes, Inside        the contracts of the marks of struck steps, and of what brings a session's numbers inside their limits
--   OfFile                 an accepted file's arrays: inside their limits, they hold its chain and keep its observations
pub mod Arrays
pub mod HoldsChain
pub mod Reading
pub mod Ratios
pub mod Means
pub mod Strikes
pub mod Inside
