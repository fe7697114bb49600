use Rattle.std.proofs.Common.{◌≡◌, sym, arith, Err}
use Rattle.records.specs.Parse.{head_refused, head_clear, head_length}
use Rattle.records.proofs.parse.Goals as goal

pub returns-in_err-check_head : goal.returns-in_err-check_head
returns-in_err-check_head c =
    let handed : c.from_residual.result ≡ Err c.in_err-check_head.field-0.0 = grind arith in
    rw handed (head_refused c.in_err-check_head.field-0.0 c.in_err-check_head.ensures)

pub parse_parts-requires : goal.parse_parts-requires
parse_parts-requires c = (c.requires, head_length _ _ (sym c.in_ok-check_head.ensures))

pub returns : goal.returns
returns c = head_clear (sym c.in_ok-check_head.ensures) c.parse_parts.ensures
