-- By what is told of the bytes.
use borrow.Author.Rules.{rules}
use Rattle.definitions.specs.Programs.{board_page, paged}
use Rattle.settling.specs.Printed.{Prints}
use Rattle.settling.specs.Told.{told}
use Rattle.board_page.proofs.board.Goals as goal

pub returns : goal.returns
returns c =
    let p : Prints (board_page c.args.given.now) c.printed_of.result = told c.printed_of.ensures paged (λ s total mean made. search rules) in
    record { bytes_value = p.is; end_in_bounds = p.counted }
