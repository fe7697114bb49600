-- The lines of the page, one behind the other. The invariant: the lines of the parts passed stand at the buffer's front.
use lib.ListN.{get_or}
use Rattle.definitions.specs.Words.{part}
use Rattle.definitions.specs.Matrix.{part_by_index}
use Rattle.definitions.specs.Text.{lines}
use Rattle.definitions.specs.Page.{page_line}
use Rattle.text.specs.Added.{Added}
use Rattle.pages.proofs.write_page.Given as goal

abbrev pub invariant-loop-k : goal.invariant-loop-k
invariant-loop-k l =
    Added l.initial.buf 0 (lines (λ i. page_line (part_by_index l.last i) (part l.mean i) (get_or l.own i 0)) l.k) l.buf l.end
