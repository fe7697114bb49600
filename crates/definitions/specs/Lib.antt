-- The specification as definitions, section by section and in its order. What must be believed of this product stands here and in
-- the contracts that cite it; what follows from it is proved elsewhere.
--   Logarithm      the logarithm of an amount, in ticks
--   Weight         the weight of a variance
--   Layout         the file and the mean record: fields, places, lengths
--   RowStarts      the constant table of row starts
--   Refusals       the checks 1 to 11, 14 and 15, in number order, with their places; which files are accepted
--   Observations   weights p, q, s, t, g and observations x, z, y of a file
--   Loss           the loss of u/m times m²
--   Matrix         own weight, precision matrix, right-hand side, residue; passed or the first failing part
--   Residues       residues by observations: weight times difference, added up
--   Strikes        struck steps: what is left of a file without them
--   Sweep          one step, one sweep, the sweeps of a call
--   Text           numbers in base ten, aligned; the names of the parts
--   Page           the page of a mean and its own weights
--   Ultimate       the central ultimate of an accident year: floor, remainder and divisor
--   Machine        the session machine: each call's answer, and state and buffer afterwards
--   Kept           what a session keeps of a file in the file's place
--   Programs       what the programs print: the listing, and the page of a settled mean
--   Guarantee      demand 3: what a passed mean is worth, and which means must pass
--   Examples       the files, means and calls of the joint table
--   JointTable     the starred figures, with the page and the listing of F, as one theorem
-- The words that the definitions are written in: ℕ and its operations, in which a difference stops at 0 and n / 0 is 0; lists
-- (`lib.ListN`); ℤ (`lib.IntN`); tests (`leb`, `ltb`, `eqb` of `lib.Dec`); `sum n f`, which is f 0 + … + f (n − 1) over ℤ, and
-- `total n f`, the same over ℕ (both of `integers`, `Summation`); quoted texts, by their characters' codes (`ascii` of `Text`); and the
-- three of `Words`.
pub mod Words
pub mod Logarithm
pub mod Weight
pub mod Layout
pub mod RowStarts
pub mod Refusals
pub mod Observations
pub mod Loss
pub mod Matrix
pub mod Residues
pub mod Strikes
pub mod Sweep
pub mod Text
pub mod Page
pub mod Ultimate
pub mod Machine
pub mod Kept
pub mod Programs
pub mod Guarantee
pub mod Examples
pub mod JointTable
