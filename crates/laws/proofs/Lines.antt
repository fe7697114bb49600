-- Texts of lines: how long they are, where each line stands, and that lines which end alike are told apart.
use Prim.Native.Nat.{ℕ, zero, suc, ◌+◌, ◌*◌, ◌≤◌, ◌<◌}
use Rattle.std.specs.Prelude.{◌≡◌, refl, ◌⊎◌, [], ◌∷◌, ◌++◌, take, drop, get_or}
use Rattle.std.proofs.Common.{sym, ap, ap₂, ◌∙◌, inl, inr, append_assoc, append-nil, eq-or-lt_of_le, mul-suc, mul-le-mul_left, add-one, length-drop, take_all}
use Rattle.std.proofs.Common.{drop_at}
use native.Mathlib.Omega.{arith}
use Rattle.std.proofs.Math.ListN.{length, length-append}
use Rattle.std.proofs.lemmas.List.{take-append-le, drop-append-le}
use Rattle.definitions.specs.Layout.{Bytes}
use Rattle.definitions.specs.Text.{space, lines}
use Rattle.laws.specs.Decimal.{From}
use Rattle.laws.specs.Lines.{Line, ended, longer}

-- ---- one line more

pub lines_next : (line : ℕ → Bytes) (k : ℕ) → lines line k ++ line k ≡ lines line (k + 1)
unfolding lines
lines_next line k = sym (ap (lines line) (add-one k))

pub lines_same : (f g : ℕ → Bytes) (n : ℕ) → ((k : ℕ) → k < n → f k ≡ g k) → lines f n ≡ lines g n
unfolding lines
lines_same f g zero same = refl
lines_same f g (suc n) same = ap₂ ◌++◌ (lines_same f g n (λ k below. same k (omega arith))) (same n (omega arith))

-- ---- lines of at most, and of just, so many bytes

pub lines_most : (line : ℕ → Bytes) (width n : ℕ) → ((k : ℕ) → k < n → length (line k) ≤ width) → length (lines line n) ≤ width * n
unfolding lines
lines_most line width zero few = omega arith
lines_most line width (suc n) few =
    omega (arith, length-append (lines line n) (line n), lines_most line width n (λ k below. few k (omega arith)), few n (omega arith))

module _ (line : ℕ → Bytes) (width : ℕ) where
  pub lines_length : (n : ℕ) → ((k : ℕ) → k < n → length (line k) ≡ width) → length (lines line n) ≡ width * n
  unfolding lines
  lines_length zero wide = omega arith
  lines_length (suc n) wide =
      omega (arith, length-append (lines line n) (line n), lines_length n (λ k below. wide k (omega arith)), wide n (omega arith))

  pub line_at : (n : ℕ) → ((k : ℕ) → k < n → length (line k) ≡ width) → (k : ℕ) → k < n
      → take width (drop (width * k) (lines line n)) ≡ line k
  unfolding lines
  line_at zero wide k below = absurd (omega arith)
  line_at (suc n) wide k below =
      by_place (eq-or-lt_of_le (omega arith)) (λ before. line_at n (λ j h. wide j (omega arith)) k before)
    where
      long : length (lines line n) ≡ width * n
      long = lines_length n (λ j h. wide j (omega arith))

      by_place : (k ≡ n) ⊎ (k < n) → (k < n → take width (drop (width * k) (lines line n)) ≡ line k)
          → take width (drop (width * k) (lines line n ++ line n)) ≡ line k
      by_place (inl here) earlier =
          ap (λ j. take width (drop (width * j) (lines line n ++ line n))) here
          ∙ ap (take width) (drop_at (lines line n) (line n) (width * n) long)
          ∙ take_all width (line n) (omega (arith, wide n (omega arith)))
          ∙ ap line (sym here)
      by_place (inr before) earlier =
          let next : width * k + width ≤ width * n = omega (arith, mul-suc width k, mul-le-mul_left width before) in
          ap (take width) (drop-append-le (width * k) (lines line n) (line n) (omega (arith, long, next)))
          ∙ take-append-le width (drop (width * k) (lines line n)) (line n)
          (omega (arith, length-drop (width * k) (lines line n), long, next))
          ∙ earlier before

-- ---- lines that end with a line feed

pub line_behind : (xs : Bytes) {ys : Bytes} → From space xs → Line ys → Line (xs ++ ys)
unfolding From
line_behind [] h rest = rest
line_behind (x ∷ xs) h rest = longer x h.0 (line_behind xs h.1 rest)

-- where two texts begin with a line each, the lines are the same, and so is what stands behind them
same_line : {xs ys : Bytes} → Line xs → Line ys → (r s : Bytes) → xs ++ r ≡ ys ++ s → (xs ≡ ys) × (r ≡ s)
same_line ended ended r s e = (refl, ap (drop 1) e)
same_line ended (longer y from ys) r s e = absurd (omega (arith, from, ap (λ l. get_or l 0 0) e))
same_line (longer x from xs) ended r s e = absurd (omega (arith, from, ap (λ l. get_or l 0 0) e))
same_line (longer x x-from xs) (longer y y-from ys) r s e =
    let rest = same_line xs ys r s (ap (drop 1) e) in (ap₂ ◌∷◌ (ap (λ l. get_or l 0 0) e) rest.0, rest.1)

-- the first line, and those behind it
lines_front : (line : ℕ → Bytes) (n : ℕ) → lines line (suc n) ≡ line 0 ++ lines (λ k. line (suc k)) n
unfolding lines
lines_front line zero = sym (append-nil (line 0))
lines_front line (suc n) =
    ap (λ l. l ++ line (suc n)) (lines_front line n) ∙ append_assoc (line 0) (lines (λ k. line (suc k)) n) (line (suc n))

no_line : {xs : Bytes} → Line xs → (r : Bytes) → [] ≡ xs ++ r → ⊥
no_line ended r e = let z : 0 ≡ suc (length r) = ap length e in omega (arith, z)
no_line (longer x {xs} from rest) r e = let z : 0 ≡ suc (length (xs ++ r)) = ap length e in omega (arith, z)

-- two texts of lines are the same only line by line
pub same_lines : (f g : ℕ → Bytes) (n m : ℕ) → ((k : ℕ) → k < n → Line (f k)) → ((k : ℕ) → k < m → Line (g k))
    → lines f n ≡ lines g m → (n ≡ m) × ((k : ℕ) → k < n → f k ≡ g k)
unfolding lines
same_lines f g zero zero f-ends g-ends e = (refl, λ k below. absurd (omega arith))
same_lines f g zero (suc m) f-ends g-ends e = absurd (no_line (g-ends 0 (omega arith)) (lines (λ k. g (suc k)) m) (e ∙ lines_front g m))
same_lines f g (suc n) zero f-ends g-ends e = absurd (no_line (f-ends 0 (omega arith)) (lines (λ k. f (suc k)) n) (sym e ∙ lines_front f n))
same_lines f g (suc n) (suc m) f-ends g-ends e =
    let first = same_line (f-ends 0 (omega arith)) (g-ends 0 (omega arith)) _ _ (sym (lines_front f n) ∙ e ∙ lines_front g m) in
    let rest = same_lines (λ k. f (suc k)) (λ k. g (suc k)) n m (λ k h. f-ends (suc k) (omega arith)) (λ k h. g-ends (suc k) (omega arith))
    first.1 in
    (ap suc rest.0, by_place first.0 rest.1)
  where
    by_place : f 0 ≡ g 0 → ((k : ℕ) → k < n → f (suc k) ≡ g (suc k)) → (k : ℕ) → k < suc n → f k ≡ g k
    by_place here later zero below = here
    by_place here later (suc k) below = later k (omega arith)
