-- `records::put_header` meets its contract: the length, and one byte behind it. Assumes nothing.
use mathlib.Core.Path.{ap, ◌∙◌}
use Prim.Native.Nat.{◌+◌}
use mathlib.Core.List.{◌++◌}
use lib.ListN.{set, take, drop}
use Rattle.definitions.specs.Layout.{bytes_of, record_length}
use Rattle.records.proofs.RecordSteps.{header_put}
use Rattle.records.proofs.put_header.Goals as goal

pub returns : goal.returns
returns c =
    let b = c.args.buf.now in
    let long = c.record_length.ensures in
    ap (λ l. set l 4 1) (c.put_four.ensures.is ∙ ap (λ n. take 0 b ++ bytes_of 4 n ++ drop (0 + 4) b) long)
    ∙ header_put (record_length c.args.last) b c.requires
