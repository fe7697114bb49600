-- The lines of a record's parts. The invariant: the page is as long as it was, and the lines of the parts passed are added.
use Rattle.std.proofs.Common.{◌≡◌, length}
use Rattle.definitions.specs.Layout.{part_at, signed}
use Rattle.definitions.specs.Matrix.{part_by_index}
use Rattle.definitions.specs.Text.{lines}
use Rattle.definitions.specs.Programs.{part_line}
use Rattle.text.specs.Added.{Added}
use Rattle.listing.proofs.put_parts.Given as goal

abbrev pub invariant-loop-k : goal.invariant-loop-k
invariant-loop-k l =
    (length l.page ≡ length l.initial.page)
    × Added l.initial.page l.at (lines (λ i. part_line (part_by_index l.last i) (signed (part_at i) l.record)) l.k) l.page l.end
