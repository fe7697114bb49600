-- A line: the name, the numbers with a space before each, and the end of the line, one behind the other.
use Prim.Native.Nat.{ℕ}
use mathlib.Core.Path.{◌≡◌, refl, ◌∙◌, ap}
use mathlib.Core.List.{List, [], ◌∷◌, ◌++◌}
use native.Mathlib.Omega.{arith}
use lib.IntN.{ℤ}
use lib.ListN.{length}
use mir.Facts.{to_z-of_z}
use Rattle.definitions.specs.Text.{line_feed, decimal, signed_decimal, aligned}
use Rattle.text.specs.Added.{both, in_words}
use Rattle.pages.specs.Pages.{index_fits, mean_fits, own_fits, line_put}
use Rattle.pages.proofs.put_line.Goals as goal

pub put_in-indexed-requires : goal.put_in-indexed-requires
put_in-indexed-requires c =
    let fits = index_fits c.requires.fits in
    record {
      on = c.put-named.ensures.counted.0;
      fits = omega (arith, ap (λ n. length (decimal n)) c.index_of-index.ensures, fits);
      few = omega arith;
    }

pub put_in-estimated-requires : goal.put_in-estimated-requires
put_in-estimated-requires c =
    let fits = mean_fits c.requires.fits in
    record {
      on = c.put_in-indexed.ensures.counted.0;
      fits = omega (arith, ap (λ z. length (signed_decimal z)) (to_z-of_z c.ranges.mean), fits);
      few = omega arith;
    }

pub put_in-weighed-requires : goal.put_in-weighed-requires
put_in-weighed-requires c =
    let fits = own_fits c.requires.fits in
    record { on = c.put_in-estimated.ensures.counted.0; fits = omega (arith, fits); few = omega arith }

-- the pieces in their own words
pieces : {name named : List ℕ} {index indexed : ℕ} {mean meant : ℤ} (own : ℕ) → name ≡ named → index ≡ indexed → mean ≡ meant
    → name ++ aligned 3 (decimal index) ++ aligned 10 (signed_decimal mean) ++ aligned 11 (decimal own) ++ line_feed ∷ []
    ≡ named ++ aligned 3 (decimal indexed) ++ aligned 10 (signed_decimal meant) ++ aligned 11 (decimal own) ++ line_feed ∷ []
pieces own name index ticks = rw (name, index, ticks) refl

pub returns : goal.returns
returns c =
    let kept₁ = c.put-named.auto.page in
    let kept₂ = c.put_in-indexed.auto.page ∙ kept₁ in
    let kept₃ = c.put_in-estimated.auto.page ∙ kept₂ in
    let kept₄ = c.put_in-weighed.auto.page ∙ kept₃ in
    let name = c.name_of-name.ensures in
    let index = c.index_of-index.ensures in
    let ticks = to_z-of_z c.ranges.mean in
    in_words (pieces c.args.own name index ticks ∙ line_put c.requires.fits)
    (both (both (both (both c.put-named.ensures kept₁ c.put_in-indexed.ensures) kept₂ c.put_in-estimated.ensures) kept₃
    c.put_in-weighed.ensures) kept₄ c.put.ensures)
