-- `row_starts::row_start` meets its contract: the entry of the year is the start of its row. Assumes nothing.
use Rattle.row_starts.specs.Starts.{starts_at}
use Rattle.row_starts.proofs.row_start.Goals as goal

pub returns : goal.returns
returns c = let s = c.before in starts_at c.starts_of-starts.ensures s.args.year s.requires.1 s.requires.0
