-- By what is told of the bytes.
use borrow.Author.Rules.{rules}
use Rattle.definitions.specs.Programs.{listing, listed}
use Rattle.settling.specs.Printed.{Prints}
use Rattle.settling.specs.Told.{told}
use Rattle.listing.proofs.list.Goals as goal

pub returns : goal.returns
returns c =
    let p : Prints (listing c.args.given.now) c.printed_of.result = told c.printed_of.ensures listed (λ s total mean made. search rules) in
    record { bytes_value = p.is; end_in_bounds = p.counted }
