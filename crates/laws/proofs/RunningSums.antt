-- An array of 16 numbers that takes the sums of the first n numbers, one after another.
use Rattle.std.specs.Prelude.{ℕ, ◌+◌, ◌≤◌, ◌<◌, ◌≡◌, refl, ◌⊎◌, List, ℤ, pos, set, replicate}
use Rattle.std.proofs.Common.{sym, ap, subst, ◌∙◌, inl, inr, eq-or-lt_of_le, arith, length-set, get_or-set_same, get_or-set_other}
use Rattle.integers.specs.Sum.{sum, sum_zero}
use Rattle.definitions.specs.Words.{part}
use Rattle.laws.specs.RunningSums.{Summed}

pub summed_none : (f : ℕ → ℤ) → Summed 0 f (pos 0) (replicate 16 (pos 0))
summed_none f = record {
  long = refl;
  there = λ i few. subst (λ n. part (replicate 16 (pos 0)) n ≡ sum n f) (none i few) (sym (sum_zero f));
  at_hand = sym (sum_zero f);
}
  where
    none : (i : ℕ) → i ≤ 0 → 0 ≡ i
    none i few = omega arith

pub summed_next : {n : ℕ} {f : ℕ → ℤ} {now z : ℤ} {sums : List ℤ} → Summed n f now sums → n < 15 → z ≡ sum (n + 1) f
    → Summed (n + 1) f z (set sums (n + 1) z)
summed_next {n} {f} {z = z} {sums = sums} h below e = record {
  long = length-set sums (n + 1) z ∙ h.long;
  there = λ i few. by_place i (eq-or-lt_of_le few);
  at_hand = e;
}
  where
    by_place : (i : ℕ) → (i ≡ n + 1) ⊎ (i < n + 1) → part (set sums (n + 1) z) i ≡ sum i f
    by_place i (inl here) =
        ap (part (set sums (n + 1) z)) here
        ∙ get_or-set_same sums (n + 1) z (pos 0) (omega (arith, h.long))
        ∙ e
        ∙ ap (λ m. sum m f) (sym here)
    by_place i (inr earlier) = get_or-set_other sums (n + 1) i z (pos 0) (λ same. omega arith) ∙ h.there i (omega arith)
