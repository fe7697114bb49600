-- `page_lent` meets its contract: after 21, 24 and 13 the page of the mean that is held is written.
use mathlib.Core.Path.{◌≡◌, sym, ap, subst, ◌∙◌}
use Rattle.std.proofs.Common.{Ok, Err}
use mathlib.Core.Bool.{true}
use mathlib.Core.List.{◌++◌}
use native.Mathlib.Omega.{arith}
use lib.IntN.{pos}
use lib.ListN.{drop, get_or}
use Rattle.definitions.specs.Words.{part}
use Rattle.definitions.specs.Layout.{parts}
use Rattle.definitions.specs.Matrix.{passes}
use Rattle.definitions.specs.Page.{page_length}
use Rattle.definitions.specs.Machine.{page_in}
use Rattle.laws.proofs.Tables.{tab_at}
use Rattle.laws.proofs.Pages.{page_cong}
use Rattle.chain.specs.Arrays.{figures_of, mean_of}
use Rattle.holding.specs.State.{Held, Fits, held_at}
use Rattle.holding.specs.Fitted.{frame}
use Rattle.writing.specs.Writes.{Pages}
use Rattle.writing.proofs.WriteLaws.{writes_refused, writes_short, writes_written}
use Rattle.writing.proofs.page_lent.Goals as goal
use Rattle.writing.proofs.page_lent.Goals.{In_ok-check_passing}

pub returns-in_err-check_passing : goal.returns-in_err-check_passing
returns-in_err-check_passing c =
    let refusal = c.in_err-check_passing.field-0.0 in
    let handed : c.from_residual.result ≡ Err refusal = grind arith in
    rw handed (writes_refused page_length page_in _ _ refusal c.in_err-check_passing.ensures)

-- a file is open, and the mean that is held passes
module _ (c : In_ok-check_passing) where
  abbrev s : Held
  s = let a = c.args in held_at a.last a.closeness a.total a.own.now a.matrix.now a.right_hand.now a.mean.now

  open_file : Fits s
  open_file = c.in_ok-check_passing.ensures.0

  passing : passes (figures_of s.figures) (part (mean_of s.figures.last s.mean)) ≡ true
  passing = c.in_ok-check_passing.ensures.1

pub page_length-requires : goal.page_length-requires
page_length-requires c = (frame (open_file c)).years

pub returns-then-buffer-page_length : goal.returns-then-buffer-page_length
returns-then-buffer-page_length c =
    let in_ok = (goal.at.returns-then-buffer-page_length c).In_ok-check_passing in
    rw c.at.ensures
    (writes_short page_length page_in _ _ (open_file in_ok) (passing in_ok)
    (omega (arith, c.if-buffer-page_length.true, c.page_length.ensures)))

pub write_page-requires : goal.write_page-requires
write_page-requires c =
    let in_ok = (goal.at.write_page-requires c).In_ok-check_passing in
    let framed = frame (open_file in_ok) in
    record {
      room = omega (arith, c.if-buffer-page_length.false, c.page_length.ensures);
      fits = record {
        years = framed.years;
        means = (open_file in_ok).inside.small;
        weights = λ k below. omega (arith, (framed.parts_fit k below).own_to);
      };
    }

pub returns : goal.returns
unfolding figures_of
returns c =
    let in_ok = (goal.at.returns c).In_ok-check_passing in
    let last = (s in_ok).figures.last in
    let buffer = c.args.buffer.now in
    let same = page_cong last (s in_ok).mean (mean_of last (s in_ok).mean) (s in_ok).figures.own (figures_of (s in_ok).figures).own
    (λ k below. sym (tab_at (parts last) (part (s in_ok).mean) k (pos 0) below))
    (λ k below. sym (tab_at (parts last) (λ i. get_or (s in_ok).figures.own i 0) k 0 below)) in
    subst (Pages (s in_ok) buffer (Ok tt))
    (sym (c.write_page.ensures ∙ ap (λ front. front ++ drop (page_length last) buffer) same))
    (writes_written page_length page_in (s in_ok) buffer (open_file in_ok) (passing in_ok)
    (omega (arith, c.if-buffer-page_length.false, c.page_length.ensures)))
