-- A name, an index and a mean, with the spaces and the end of the line, one behind the other.
use Rattle.std.proofs.Common.{◌≡◌, refl, ◌∙◌, List, [], ◌∷◌, ◌++◌, ℕ, ℤ}
use mir.Facts.{to_z-of_z}
use Rattle.definitions.specs.Matrix.{part_by_index}
use Rattle.definitions.specs.Text.{space, line_feed, decimal, signed_decimal}
use Rattle.text.specs.Added.{both, in_words}
use Rattle.listing.specs.Listing.{part_put}
use Rattle.listing.proofs.put_part.Goals as goal

-- the pieces in their own words
pieces : {name named : List ℕ} {index indexed : ℕ} {mean meant : ℤ} → name ≡ named → index ≡ indexed → mean ≡ meant
    → name ++ space ∷ [] ++ decimal index ++ space ∷ [] ++ signed_decimal mean ++ line_feed ∷ []
    ≡ named ++ space ∷ [] ++ decimal indexed ++ space ∷ [] ++ signed_decimal meant ++ line_feed ∷ []
pieces name index ticks = rw (name, index, ticks) refl

pub returns : goal.returns
returns c =
    let kept₁ = c.put-named.auto.page in
    let kept₂ = c.put-spaced.auto.page ∙ kept₁ in
    let kept₃ = c.put_decimal-indexed.auto.page ∙ kept₂ in
    let kept₄ = c.put-parted.auto.page ∙ kept₃ in
    let kept₅ = c.put_decimal-counted.auto.page ∙ kept₄ in
    let words = pieces c.name_of-name.ensures c.index_of-index.ensures (to_z-of_z c.ranges.mean) in
    let front = both (both c.put-named.ensures kept₁ c.put-spaced.ensures) kept₂ c.put_decimal-indexed.ensures in
    in_words (words ∙ part_put (part_by_index c.args.last c.args.k) c.args.mean)
    (both (both (both front kept₃ c.put-parted.ensures) kept₄ c.put_decimal-counted.ensures) kept₅ c.put.ensures)
