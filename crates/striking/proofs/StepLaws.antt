-- Where a step stands: with its part and accident year; and the tests of the code.
use Rattle.std.specs.Prelude.{ℕ, zero, suc, ◌+◌, ◌*◌, ◌-◌, ◌≤◌, ◌<◌, ◌≡◌, ◌≢◌, Bool, List, leb, ltb, eqb}
use Rattle.std.proofs.Math.Path.{refl, ap}
use Rattle.std.proofs.Common.{sym, ◌∙◌, arith}
use Rattle.std.proofs.Math.Bool.{true, false, cond}
use borrow.Author.Tests.{eq-eqb, ne_eqb, lt-leb, le-leb, leb-true}
use Rattle.std.proofs.Math.Dec.{leb→le, le→leb}
use Rattle.definitions.specs.Layout.{psi_index}
use Rattle.definitions.specs.Refusals.{clear, refuses}
use Rattle.definitions.specs.Strikes.{Step, step, is_step, left_beside, strike_check}
use Rattle.definitions.specs.Kept.{channel_of, column_of, steps_of, part_of_step}
use Rattle.laws.proofs.Marks.{steps_phi, steps_psi}
use Rattle.laws.proofs.Ranks.{part_by_index_phi, part_by_index_psi, same_test}
use Rattle.laws.proofs.StruckSteps.{strikable, strike_channel}
use Rattle.observations.specs.Arrays.{unmarked}
use Rattle.striking.specs.Steps.{OfStep, mark_of}
use Rattle.striking.specs.StepLaws.{Placed}

-- ---- the code's tests of a step

module _ (J c i j : ℕ) where
  pub step_late : J < i → is_step J (step c i j) ≡ false
  unfolding is_step
  step_late past = rw (lt-leb (i + j) J (omega arith), lt-leb (suc (i + j)) J (omega arith)) (either (eqb c 0))
    where
      either : (t : Bool) → cond t false false ≡ false
      either true = refl
      either false = refl

  pub step_x : i ≤ J → c ≡ 0 → is_step J (step c i j) ≡ leb j (J - i)
  unfolding is_step
  step_x in_years paid =
      ap (λ t. cond t (leb (i + j) J) (ltb (i + j) J)) (eq-eqb c 0 paid)
      ∙ same_test (leb (i + j) J) (leb j (J - i))
      (λ t. le→leb j (J - i) (omega (arith, leb→le (i + j) J t))) (λ t. le→leb (i + j) J (omega (arith, leb→le j (J - i) t)))

  pub step_z : i ≤ J → c ≢ 0 → is_step J (step c i j) ≡ ltb j (J - i)
  unfolding is_step
  step_z in_years incurred =
      ap (λ t. cond t (leb (i + j) J) (ltb (i + j) J)) (ne_eqb c 0 incurred)
      ∙ same_test (ltb (i + j) J) (ltb j (J - i))
      (λ t. le→leb (suc j) (J - i) (omega (arith, leb→le (suc (i + j)) J t)))
      (λ t. le→leb (suc (i + j)) J (omega (arith, leb→le (suc j) (J - i) t)))

-- ---- the part of a step

pub placed : (J c i j : ℕ) → OfStep J c i j → Placed J c i j
unfolding is_step
placed J zero i j h =
    let there = leb-true (i + j) J h.there in
    let few : j ≤ J = omega (arith, there) in record {
      in_years = there;
      below = omega (arith, few);
      year = rw (steps_phi J j few) (omega (arith, there));
      steps = steps_phi J j few;
      is = ap (λ a. step (channel_of a) i (column_of a)) (part_by_index_phi J j few);
    }
placed J (suc zero) i j h =
    let there = leb-true (suc (i + j)) J h.there in
    let many = steps_psi J (psi_index J j) (omega arith) ∙ back J j in record {
      in_years = omega (arith, there);
      below = omega (arith, there);
      year = rw many (omega (arith, there));
      steps = many;
      is = ap (λ a. step (channel_of a) i (column_of a)) (part_by_index_psi J j);
    }
  where
    back : (J j : ℕ) → 2 * J + 1 - (J + 1 + j) ≡ J - j
    back J j = omega arith
placed J (suc (suc c)) i j h = absurd (omega (arith, h.of_channel))

-- its mark is in the array
pub mark_inside : {J c i j : ℕ} → OfStep J c i j → 16 * part_of_step J (step c i j) + i < 496
mark_inside {J} {c} {i} {j} h = let p = placed J c i j h in omega (arith, p.below, p.in_years, h.few)

-- ---- the check of a step, by marks

module _ (J c i j : ℕ) (marks : List ℕ) where
  abbrev struck : Step → Bool
  struck = mark_of J marks

  pub no_channel : 1 < c → refuses 14 0 ≡ strike_check J (mark_of J marks) (step c i j)
  unfolding strike_check
  no_channel past = rw (lt-leb c 1 past) refl

  module _ (channel : c ≤ 1) where
    pub no_step : is_step J (step c i j) ≡ false → refuses 26 0 ≡ strike_check J (mark_of J marks) (step c i j)
    unfolding strike_check
    no_step none = rw (le-leb c 1 channel, none) refl

    module _ (there : is_step J (step c i j) ≡ true) where
      pub struck_already : mark_of J marks (step c i j) ≡ true → refuses 26 0 ≡ strike_check J (mark_of J marks) (step c i j)
      unfolding strike_check
      struck_already is-marked = rw (le-leb c 1 channel, there, is-marked) refl

      module _ (unmarked_yet : mark_of J marks (step c i j) ≡ false) {n : ℕ}
          (count : n ≡ left_beside J (mark_of J marks) (step c i j)) where
        pub last_left : n ≡ 1 → refuses 27 0 ≡ strike_check J (mark_of J marks) (step c i j)
        unfolding strike_check
        last_left one = rw (le-leb c 1 channel, there, unmarked_yet, eq-eqb _ 1 (sym count ∙ one)) refl

        pub may_strike : n ≢ 1 → clear ≡ strike_check J (mark_of J marks) (step c i j)
        unfolding strike_check
        may_strike more = rw (le-leb c 1 channel, there, unmarked_yet, ne_eqb _ 1 (λ one. more (count ∙ one))) refl

-- what is counted of its part is what is left in its column
pub left_counted : {J c i j : ℕ} (marks : List ℕ) → OfStep J c i j
    → unmarked marks (part_of_step J (step c i j)) (steps_of J (part_of_step J (step c i j))) ≡ left_beside J (mark_of J marks) (step c i j)
unfolding left_beside
left_counted {J} {c} {i} {j} marks h = ap (unmarked marks (part_of_step J (step c i j))) (placed J c i j h).steps

-- and where the check is clear there is the step
pub of_clear : (J : ℕ) (struck : Step → Bool) (c i j : ℕ) → J ≤ 15 → strike_check J struck (step c i j) ≡ clear → OfStep J c i j
of_clear J struck c i j few passed = record {
  few = few;
  of_channel = strike_channel J struck c i j passed;
  there = (strikable J struck (step c i j) passed).there;
}
