-- What the writer of a page asks, and its lines as they are put: each number with the space before it.
use Rattle.std.specs.Prelude.{ℕ, suc, ◌-◌, ◌≤◌, ◌≡◌, List, [], ◌∷◌, ◌++◌, ℤ, length, replicate}
use Rattle.std.proofs.Math.Path.{refl}
use Rattle.std.proofs.Common.{ap, arith}
use Rattle.definitions.specs.Layout.{Bytes}
use Rattle.definitions.specs.Refusals.{year_limit}
use Rattle.definitions.specs.Matrix.{Part, part_by_index}
use Rattle.definitions.specs.Text.{space, line_feed, more_digits, decimal, signed_decimal, aligned, name_of, index_of}
use Rattle.definitions.specs.Page.{page_line, page_length}
use Rattle.laws.proofs.Decimal.{decimal_length, signed_length}
use Rattle.laws.specs.Pages.{PageInColumns, InColumns}

pub record OfLine (page : List ℕ) (at last k : ℕ) (mean : ℤ) (own : ℕ) : Type 0 where
  pub on : at ≤ length page
  pub years : last ≤ year_limit
  pub fits : InColumns (part_by_index last k) mean own

pub record OfPage (page : List ℕ) (last : ℕ) (μ : List ℤ) (D : List ℕ) : Type 0 where
  pub room : page_length last ≤ length page
  pub fits : PageInColumns last μ D

-- one column more is a space before
spaced : (columns : ℕ) (text : Bytes) → length text ≤ columns → aligned (suc columns) text ≡ space ∷ aligned columns text
unfolding aligned
spaced columns text fits =
    let more : suc columns - length text ≡ suc (columns - length text) = omega arith in ap (λ n. replicate n space ++ text) more

module _ {p : Part} {mean : ℤ} {own : ℕ} (h : InColumns p mean own) where
  pub index_fits : length (decimal (index_of p)) ≤ 2
  index_fits = decimal_length 1 more_digits (index_of p) (omega (arith, h.index_to))

  pub mean_fits : length (signed_decimal mean) ≤ 9
  mean_fits = signed_length 7 mean (omega (arith, h.mean_to))

  pub own_fits : length (decimal own) ≤ 10
  own_fits = decimal_length 9 more_digits own h.own_to

  -- the line as it is put
  pub line_put :
      name_of p ++ aligned 3 (decimal (index_of p)) ++ aligned 10 (signed_decimal mean) ++ aligned 11 (decimal own) ++ line_feed ∷ []
      ≡ page_line p mean own
  unfolding page_line
  line_put =
      rw (spaced 2 (decimal (index_of p)) index_fits, spaced 9 (signed_decimal mean) mean_fits, spaced 10 (decimal own) own_fits) refl
