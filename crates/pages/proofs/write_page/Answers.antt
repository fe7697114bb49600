-- The lines of the page, one behind the other. The invariant: the lines of the parts passed stand at the buffer's front.
use Prim.Native.Nat.{ℕ, ◌<◌}
use mathlib.Core.Path.{◌≡◌, sym, ap, subst, ◌∙◌}
use mathlib.Core.List.{List, ◌++◌}
use native.Mathlib.Omega.{arith}
use lib.IntN.{ℤ}
use lib.ListN.{drop, get_or}
use Rattle.integers.specs.Bits.{stored, read}
use Rattle.definitions.specs.Words.{part}
use Rattle.definitions.specs.Layout.{parts}
use Rattle.definitions.specs.Matrix.{part_by_index}
use Rattle.definitions.specs.Text.{lines}
use Rattle.definitions.specs.Page.{page_line, page_of}
use Rattle.laws.proofs.Lines.{lines_next}
use Rattle.laws.specs.Pages.{InColumns, PageInColumns}
use Rattle.laws.proofs.Pages.{in_columns, page_fits}
use Rattle.text.specs.Added.{both, in_words, nothing, whole}
use Rattle.pages.proofs.write_page.Goals as goal

-- a mean inside the limits is read from its array as it stands there
stored_ticks : (J : ℕ) (μ : List ℤ) (D : List ℕ) → PageInColumns J μ D → (k : ℕ) → k < parts J → stored (part μ k) ≡ part μ k
stored_ticks J μ D h k below = read (part μ k) (omega (arith, h.means k below))

pub loop-k-init : goal.loop-k-init
unfolding lines
loop-k-init c = nothing _ _ (omega arith)

pub put_line-end-requires : goal.put_line-end-requires
put_line-end-requires c =
    let l = c.loop-k in
    let below : l.k < parts c.args.last = omega (arith, c.loop-k-test.true) in
    let ticks = stored_ticks _ _ _ c.requires.fits l.k below in
    record {
      on = omega (arith, l.auto.buf, l.invariant.counted.0);
      years = c.requires.fits.years;
      fits =
          subst (λ z. InColumns (part_by_index c.args.last l.k) z (get_or c.args.own.now l.k 0)) (sym ticks)
          (in_columns _ _ _ c.requires.fits l.k below);
    }

pub loop-k-preserved : goal.loop-k-preserved
loop-k-preserved c =
    let l = c.loop-k in
    let line = c.put_line-end in
    let below : l.k < parts c.args.last = omega (arith, c.loop-k-test.true) in
    let ticks = stored_ticks _ _ _ c.requires.fits l.k below in
    let same = ap (λ z. page_line (part_by_index c.args.last l.k) z (get_or c.args.own.now l.k 0)) ticks in
    in_words (lines_next _ l.k) (both l.invariant l.auto.buf (in_words same line.ensures))

pub returns : goal.returns
returns c =
    let l = c.loop-k in
    let a = c.args in
    let bytes = (page_fits _ _ _ c.requires.fits).bytes in
    let all : l.k ≡ parts a.last = omega (arith, l.auto.k-end, c.loop-k-test.false) in
    let page = in_words (ap (lines (λ i. page_line (part_by_index a.last i) (part a.mean.now i) (get_or a.own.now i 0))) all) l.invariant in
    (whole page (omega (arith, bytes, c.requires.room))).is
    ∙ ap (λ n. page_of a.last a.mean.now a.own.now ++ drop n a.buf.now) bytes
