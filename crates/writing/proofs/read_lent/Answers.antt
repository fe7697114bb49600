-- `read_lent` meets its contract: after 21, 24 and 13 the record of the mean that is held is written.
use mathlib.Core.Path.{◌≡◌, sym, ap, subst, ◌∙◌}
use Rattle.std.proofs.Common.{Ok, Err}
use mathlib.Core.Bool.{true}
use mathlib.Core.List.{◌++◌}
use native.Mathlib.Omega.{arith}
use lib.IntN.{pos}
use lib.ListN.{drop}
use Rattle.definitions.specs.Words.{part}
use Rattle.definitions.specs.Layout.{parts, record_length}
use Rattle.definitions.specs.Matrix.{passes}
use Rattle.definitions.specs.Machine.{record_in}
use Rattle.laws.proofs.Tables.{tab_at}
use Rattle.records.specs.Records.{record_cong}
use Rattle.chain.specs.Arrays.{figures_of, mean_of}
use Rattle.holding.specs.State.{Held, Fits, held_at}
use Rattle.holding.specs.Fitted.{frame}
use Rattle.writing.specs.Writes.{Reads}
use Rattle.writing.proofs.WriteLaws.{writes_refused, writes_short, writes_written}
use Rattle.writing.proofs.read_lent.Goals as goal
use Rattle.writing.proofs.read_lent.Goals.{In_ok-check_passing}

pub returns-in_err-check_passing : goal.returns-in_err-check_passing
returns-in_err-check_passing c =
    let refusal = c.in_err-check_passing.field-0.0 in
    let handed : c.from_residual.result ≡ Err refusal = grind arith in
    rw handed (writes_refused record_length record_in _ _ refusal c.in_err-check_passing.ensures)

-- a file is open, and the mean that is held passes
module _ (c : In_ok-check_passing) where
  abbrev s : Held
  s = let a = c.args in held_at a.last a.closeness a.total a.own.now a.matrix.now a.right_hand.now a.mean.now

  open_file : Fits s
  open_file = c.in_ok-check_passing.ensures.0

  passing : passes (figures_of s.figures) (part (mean_of s.figures.last s.mean)) ≡ true
  passing = c.in_ok-check_passing.ensures.1

pub overflow_cast-year : goal.overflow_cast-year
overflow_cast-year c = record { fits = omega (arith, (frame (open_file c)).years) }

pub returns-then-buffer-record_length : goal.returns-then-buffer-record_length
returns-then-buffer-record_length c =
    let in_ok = (goal.at.returns-then-buffer-record_length c).In_ok-check_passing in
    rw c.at.ensures (writes_short record_length record_in _ _ (open_file in_ok) (passing in_ok)
    (omega (arith, c.if-buffer-record_length.true, c.record_length.ensures)))

pub write_record-requires : goal.write_record-requires
write_record-requires c =
    let in_ok = (goal.at.write_record-requires c).In_ok-check_passing in
    ((frame (open_file in_ok)).years, omega (arith, c.if-buffer-record_length.false, c.record_length.ensures), (open_file in_ok).inside.small)

pub returns : goal.returns
unfolding figures_of
returns c =
    let in_ok = (goal.at.returns c).In_ok-check_passing in
    let mean = (s in_ok).mean in
    let last = (s in_ok).figures.last in
    let buffer = c.args.buffer.now in
    subst (Reads (s in_ok) buffer (Ok tt))
    (sym (c.write_record.ensures
    ∙ ap (λ front. front ++ drop (record_length last) buffer)
    (record_cong last mean (mean_of last mean) (λ k below. sym (tab_at (parts last) (part mean) k (pos 0) below)))))
    (writes_written record_length record_in (s in_ok) buffer (open_file in_ok) (passing in_ok)
    (omega (arith, c.if-buffer-record_length.false, c.record_length.ensures)))
