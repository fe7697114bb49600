-- An array of 31 numbers that is rewritten from the front: below k it has its new numbers already, from k on still its old ones.
use Rattle.std.specs.Prelude.{ℕ, ◌+◌, ◌≤◌, ◌<◌, ◌≡◌, ◌⊎◌, List, ℤ, pos, length, set}
use Rattle.std.proofs.Common.{ap, sym, subst, ◌∙◌, inl, inr, eq-or-lt_of_le, arith, length-set, get_or-set_same, get_or-set_other}
use Rattle.definitions.specs.Words.{part}

pub record Turned (k : ℕ) (fresh old : ℕ → ℤ) (v : List ℤ) : Type 0 where
  pub long : length v ≡ 31
  pub front : (i : ℕ) → i < k → part v i ≡ fresh i
  pub rest : (i : ℕ) → k ≤ i → part v i ≡ old i

module _ {fresh old : ℕ → ℤ} {v : List ℤ} where
  pub turned_none : length v ≡ 31 → ((i : ℕ) → part v i ≡ old i) → Turned 0 fresh old v
  turned_none long same = record { long = long; front = λ i below. absurd (omega arith); rest = λ i _. same i }

  -- number k is rewritten
  pub turned_next : {k : ℕ} {z : ℤ} → Turned k fresh old v → k < 31 → z ≡ fresh k → Turned (k + 1) fresh old (set v k z)
  turned_next {k} {z} h below e = record {
    long = length-set v k z ∙ h.long;
    front = λ i i-below. by_place i (eq-or-lt_of_le (omega arith));
    rest = λ i from. get_or-set_other v k i z (pos 0) (λ same. omega arith) ∙ h.rest i (omega arith);
  }
    where
      by_place : (i : ℕ) → (i ≡ k) ⊎ (i < k) → part (set v k z) i ≡ fresh i
      by_place i (inl here) = ap (part (set v k z)) here ∙ get_or-set_same v k z (pos 0) (omega (arith, h.long)) ∙ e ∙ ap fresh (sym here)
      by_place i (inr earlier) = get_or-set_other v k i z (pos 0) (λ same. omega arith) ∙ h.front i earlier

-- the same array, where its numbers are known as others
pub turned_as : {k : ℕ} {fresh fresh' old old' : ℕ → ℤ} {v : List ℤ} → Turned k fresh old v
    → ((i : ℕ) → i < k → fresh i ≡ fresh' i) → ((i : ℕ) → k ≤ i → old i ≡ old' i) → Turned k fresh' old' v
turned_as h front rest = record {
  long = h.long;
  front = λ i below. h.front i below ∙ front i below;
  rest = λ i from. h.rest i from ∙ rest i from;
}

-- what holds below k and at k holds below k + 1
pub here_or_before : (P : ℕ → Type 0) (k : ℕ) → P k → ((i : ℕ) → i < k → P i) → (i : ℕ) → i < k + 1 → P i
here_or_before P k here before i below = by_place (eq-or-lt_of_le (omega arith))
  where
    by_place : (i ≡ k) ⊎ (i < k) → P i
    by_place (inl same) = subst P (sym same) here
    by_place (inr earlier) = before i earlier
