-- What follows from the definitions: why the promises hold. To search, not to read.
--   Tables            a tabulated list: its length, its elements, and two with the same
--   Filled            an array that is filled from the front
--   RunningSums       an array that takes the sums of the first n numbers, one after another
--   Runs              some elements of an array, by their places
--   NumberBytes       numbers as bytes, of any width: read back whole, and written into a buffer one after another
--   LogarithmBits     the bits of k squarings stand behind h, and are below 2^k; L is rounded by the last
--   LogarithmBound    2^(2L) ≤ 2·a^(2T) < 2^(2L+3), by a law of any number of squarings; a logarithm is at most that of the limit
--   LogarithmOrder    of two amounts the larger has no smaller logarithm
--   PinnedLogarithms  all three once more, in plain numbers
--   WeightLaws        the weight is positive, falls as the variance grows, and where it lies
--   Cells             the start of each row, by document 02's formula and table; rows and cells are inside their block
--   ClearChecks       what a clear check says of its parts; two checks side by side
--   Accepted          what an accepted file holds, field by field
--   AcceptedBefore    what another check lets through as the definitions' does is accepted, and open and row answer alike
--   Ranks             parts by index; the matrix by ranks and signs
--   Quadratic         a loss of quadratics and combinations: matrix, right-hand side, residue, expansion around a mean
--   PrecisionMatrix   the specification's matrix, right-hand side and residue are those of such a loss
--   LossForm          and the specification's loss is that loss
--   Theorem34         residue by the matrix = residue observation by observation; the expansion of the loss, in the specification's terms
--   Sizes             the sizes of entries, rows, right-hand side and residues, over limits that are left open
--   Chains            what is asked of a chain: bounded, for sizes; carried, for all else
--   ChainLimits       the sizes of a bounded chain's figures, as numbers
--   StruckSteps       how many steps of a column are left; a strike that 27 lets pass leaves one in each
--   Columns           with one weight for a column, struck steps aside, own weight and right-hand side in document 01's words
--   SameChains        the figures of a chain depend on its triangles alone
--   FileWeights       the weights of an accepted file, each g at most those whose variances are in its sum: each observation carries
--   FileChain         the sizes of an accepted file's observations: its chain is bounded
--   StruckChain       without its struck steps a chain is bounded and carried where it was
--   StruckFiles       and so is an accepted file's
--   StruckLoss        a struck step's term leaves the loss, and nothing else does
--   Marks             what a session keeps holds the file's chain, and a step is struck out of both alike
--   FormGuarantee     nearly least, near, strictly least, for such a loss
--   Rounding          a mean within half a tick of a zero-residue vector has small residues
--   Judged            passed exactly if every |residue| ≤ e·D
--   ObservedResidues  residues by observations are those of the matrix, which the test goes by; they depend on the triangles alone
--   Demand3           DEMAND 3, whole, for every chain that is carried, and so for every accepted file
--   Pinned            demand 3 at its very limits, so that no statement of it can be weakened
--   PinnedChains      demand 3 and the figures once more, of chains whose weights differ by accident year
--   Diagonal          the matrix is symmetric, its diagonal positive
--   Number16          what 1 to 10 let through has a positive diagonal; open answers alike with number 16 behind them, which no call gives
--   Rows              a row that is shown is inside its file and has an amount
--   FlatPriors        number 7 with priors of no weight and without, side by side; what a part without a prior rests on
--   PinnedPriors      both once more, in plain numbers
--   LargerAmounts     number 9 with amounts to 2^44 and to 2^40, side by side
--   PinnedAmounts     both once more, in plain numbers
--   StepLaws          one step of a sweep: one part changes, stays inside, residues follow
--   SweepLaws         no step and no sweep raises the loss; a swept mean stays inside the limits
--   MachineLaws       the machine answers alike on what a session keeps
--   ReachedStates     every state that calls reach is empty, or an accepted file with a step left in each column, a mean inside the limits
--                     and a total ≤ 4,096
--   Decimal           numbers as text: how many bytes they have, and that they are read back whole
--   Lines             texts of lines: where each line stands, and that lines which end alike are told apart
--   Pages             every value fits its columns, and two different means never share a page
--   PinnedPage        both once more, byte by byte and in plain numbers
--   Printed           what the two programs print for every input: by the answer of their last call, and in at most 4,096 bytes
--   Numbers           a refusal has a number of the table
--   Ultimates         the central ultimate: floor and remainder are those of its numerator, and no others
--   PinnedUltimate    the same once more, in document 02's letters
--   PinnedResidues    residues by observations in document 02's letters, by the matrix, and of every session that calls reach
--   PinnedStrikes     own weights and right-hand sides without struck steps, in document 02's letters; what calls reach keeps a step in
--                     each column
pub mod Accepted
pub mod AcceptedBefore
pub mod Cells
pub mod ChainLimits
pub mod Chains
pub mod ClearChecks
pub mod Columns
pub mod Decimal
pub mod Demand3
pub mod Diagonal
pub mod FileChain
pub mod FileWeights
pub mod Filled
pub mod FlatPriors
pub mod FormGuarantee
pub mod Judged
pub mod LargerAmounts
pub mod Lines
pub mod LogarithmBits
pub mod LogarithmBound
pub mod LogarithmOrder
pub mod LossForm
pub mod MachineLaws
pub mod Marks
pub mod Number16
pub mod NumberBytes
pub mod Numbers
pub mod ObservedResidues
pub mod Pages
pub mod Pinned
pub mod PinnedAmounts
pub mod PinnedChains
pub mod PinnedLogarithms
pub mod PinnedPage
pub mod PinnedPriors
pub mod PinnedResidues
pub mod PinnedStrikes
pub mod PinnedUltimate
pub mod PrecisionMatrix
pub mod Printed
pub mod Quadratic
pub mod Ranks
pub mod ReachedStates
pub mod Rounding
pub mod Rows
pub mod RunningSums
pub mod Runs
pub mod SameChains
pub mod Sizes
pub mod StepLaws
pub mod StruckChain
pub mod StruckFiles
pub mod StruckLoss
pub mod StruckSteps
pub mod SweepLaws
pub mod Tables
pub mod Theorem34
pub mod Ultimates
pub mod WeightLaws
