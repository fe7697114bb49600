-- The marks of struck steps, as a session keeps them: by part and accident year they are the steps that are struck, in each column one is
-- left, and one more that is marked is one more that is struck.
use Rattle.std.specs.Prelude.{ℕ, ◌+◌, ◌*◌, ◌/◌, ◌≤◌, ◌<◌, ◌≡◌, refl, Bool, true, not, cond, ◌&&◌, ◌||◌, ◌≢◌, eqb, length, set}
use Rattle.std.proofs.Common.{sym, ◌∙◌, arith, eq-eqb, ne_eqb, get_or-set_same, get_or-set_other}
use Rattle.std.proofs.Math.Path.{ap, subst}
use Rattle.std.proofs.Math.Bool.{false}
use mathlib.Core.List.{List, []}
use Rattle.std.proofs.Math.Decide.{ℕ_discrete}
use Rattle.std.proofs.lemmas.Bool.{eqb-false}
use Rattle.std.proofs.Math.ListN.{get_or}
use Rattle.integers.specs.Total.{total_cong, total_const}
use Rattle.definitions.specs.Words.{tab_from}
use Rattle.definitions.specs.Layout.{parts, psi_index}
use Rattle.definitions.specs.Matrix.{Part, Φ, Ψ, part_by_index}
use Rattle.definitions.specs.Strikes.{Step, step, same_step, steps_in, left_beside, EachLeft}
use Rattle.definitions.specs.Kept.{channel_of, column_of, step_of, steps_of, part_of_step, marks_of, marked}
use Rattle.laws.proofs.Marks.{steps_some, steps_few}
use Rattle.laws.specs.Ranks.{same_part}
use Rattle.laws.proofs.Ranks.{part_by_index_phi, part_by_index_psi, by_part, same_part_lem}
use Rattle.laws.specs.StruckSteps.{left_of}
use Rattle.laws.proofs.Tables.{tab_at, tab_cong}
use Rattle.observations.specs.declared.Observations.{Observations}
use Rattle.observations.specs.Arrays.{at, mark_at, unmarked, struck_at, struck_in}
use Rattle.observations.specs.Strikes.{LeftIn}
use Rattle.observations.specs.Inside.{MarksInside}

-- ---- steps by part and accident year

module _ (J : ℕ) where
  -- the part of a part's step
  part_back : (i k : ℕ) → k < parts J → part_of_step J (step_of J k i) ≡ k
  part_back i =
      by_part J (λ k. part_of_step J (step_of J k i) ≡ k)
      (λ j few. ap (λ a. part_of_step J (step (channel_of a) i (column_of a))) (part_by_index_phi J j few))
      (λ j below. ap (λ a. part_of_step J (step (channel_of a) i (column_of a))) (part_by_index_psi J j))

  -- two steps are the same exactly where part and year are
  pub same_place : (a b k i : ℕ) → a < parts J → k < parts J → same_step (step_of J a b) (step_of J k i) ≡ eqb a k && eqb b i
  same_place a b k i a-below k-below =
      by_kinds (part_by_index J a) (part_by_index J k) ∙ ap (λ t. t && eqb b i) (sym (same_part_lem J a k a-below k-below))
    where
      turned : (s t : Bool) → s && t ≡ t && s
      turned true true = refl
      turned true false = refl
      turned false true = refl
      turned false false = refl

      by_kinds : (p q : Part)
          → same_step (step (channel_of p) b (column_of p)) (step (channel_of q) i (column_of q)) ≡ same_part p q && eqb b i
      by_kinds (Φ n) (Φ m) = turned (eqb b i) (eqb n m)
      by_kinds (Ψ n) (Ψ m) = turned (eqb b i) (eqb n m)
      by_kinds (Φ n) (Ψ m) = refl
      by_kinds (Ψ n) (Φ m) = refl

-- ---- what is read of the marks

module _ (J : ℕ) (o : Observations) where
  abbrev struck : List ℕ
  struck = o.struck

  pub marked_at : (k i : ℕ) → k < parts J → i < steps_of J k → marked J (struck_in J o) (step_of J k i) ≡ struck_at J o.struck k i
  unfolding marked struck_in
  marked_at k i below there =
      ap (λ n. get_or (get_or (tab_from 0 (parts J) (λ k. tab_from 0 (steps_of J k) (struck_at J struck k))) n []) i false)
      (part_back J i k below)
      ∙ ap (λ row. get_or row i false) (tab_at (parts J) (λ k. tab_from 0 (steps_of J k) (struck_at J struck k)) k [] below)
      ∙ tab_at (steps_of J k) (struck_at J struck k) i false there

  -- in each column a step is left
  column_left : (k n : ℕ) → 1 ≤ n → 1 ≤ left_of n (λ i. cond (eqb (unmarked struck k n) 0) false (mark_at struck k i))
  column_left k n some = by_test (eqb (unmarked struck k n) 0) refl
    where
      by_test : (t : Bool) → eqb (unmarked struck k n) 0 ≡ t → 1 ≤ left_of n (λ i. cond t false (mark_at struck k i))
      by_test true e = rw (total_const n 1) (omega (arith, some))
      by_test false e = let more = eqb-false (unmarked struck k n) 0 e in omega (arith, more)

  part_left : (k : ℕ) → k < parts J → 1 ≤ left_of (steps_of J k) (λ i. marked J (struck_in J o) (step_of J k i))
  part_left k below =
      subst (λ n. 1 ≤ n) (sym (total_cong (steps_of J k) (λ i there. ap (λ t. cond t 0 1) (marked_at k i below there))))
      (column_left k (steps_of J k) (steps_some J k below))

  pub kept_left : EachLeft J (marked J (struck_in J o))
  unfolding left_beside
  kept_left = record {
    paid = λ j few. left_of_lem j (omega arith) (part_by_index_phi J j few);
    incurred = λ j below. left_of_lem (psi_index J j) (omega arith) (part_by_index_psi J j);
  }
    where
      left_of_lem : (k : ℕ) {a : Part} → k < parts J → part_by_index J k ≡ a
          → 1 ≤ left_of (steps_in J (channel_of a) (column_of a)) (λ i. marked J (struck_in J o) (step (channel_of a) i (column_of a)))
      left_of_lem k below is-a =
          subst (λ a. 1
          ≤ left_of (steps_in J (channel_of a) (column_of a)) (λ i. marked J (struck_in J o) (step (channel_of a) i (column_of a))))
          is-a (part_left k below)

-- ---- marks inside their limits

module _ {J : ℕ} {left struck r : List ℕ} (years : J ≤ 15) (counts : LeftIn struck J left) (m : MarksInside left struck r) where
  pub inside_at : (k i : ℕ) → k < parts J → i < steps_of J k → mark_at r k i ≡ struck_at J struck k i
  inside_at k i below there =
      let few = steps_few J k years in
      let inside : 16 * k + i < 496 = omega (arith, below, years, there, few) in
      let its : (16 * k + i) / 16 ≡ k = omega (arith, there, few) in
      ap (λ n. not (eqb n 0))
      (m.filled.front (16 * k + i) inside
      ∙ ap (λ n. cond (eqb n 0) 0 (at struck (16 * k + i))) (ap (at left) its ∙ counts.filled.front k below))
      ∙ by_test (eqb (unmarked struck k (steps_of J k)) 0) (at struck (16 * k + i))
    where
      by_test : (t : Bool) (mark : ℕ) → not (eqb (cond t 0 mark) 0) ≡ cond t false (not (eqb mark 0))
      by_test true mark = refl
      by_test false mark = refl

-- ---- one mark more

pub mark_set : (v : List ℕ) (a b k i : ℕ) → 16 * a + b < length v → b < 16 → i < 16
    → mark_at (set v (16 * a + b) 1) k i ≡ mark_at v k i || (eqb a k && eqb b i)
mark_set v a b k i inside b-few i-few = by_place (ℕ_discrete (16 * a + b) (16 * k + i))
  where
    or_true : (t : Bool) → true ≡ t || true
    or_true true = refl
    or_true false = refl

    or_false : (t : Bool) → t ≡ t || false
    or_false true = refl
    or_false false = refl

    elsewhere : (16 * a + b ≢ 16 * k + i) → eqb a k && eqb b i ≡ false
    elsewhere apart = by_part_of (ℕ_discrete a k) (ℕ_discrete b i)
      where
        by_part_of : Dec (a ≡ k) → Dec (b ≡ i) → eqb a k && eqb b i ≡ false
        by_part_of (yes p) (yes q) = absurd (apart (omega (arith, p, q)))
        by_part_of (yes p) (no q) = rw (eq-eqb a k p, ne_eqb b i q) refl
        by_part_of (no p) other = rw (ne_eqb a k p) refl

    by_place : Dec (16 * a + b ≡ 16 * k + i) → mark_at (set v (16 * a + b) 1) k i ≡ mark_at v k i || (eqb a k && eqb b i)
    by_place (yes here) =
        let a_is : a ≡ k = omega (arith, here, b-few, i-few) in
        let b_is : b ≡ i = omega (arith, here, b-few, i-few) in
        ap (λ n. not (eqb n 0))
        (ap (λ n. at (set v (16 * a + b) 1) n) (sym here) ∙ get_or-set_same v (16 * a + b) 1 0 inside)
        ∙ or_true (mark_at v k i)
        ∙ sym (ap (λ t. mark_at v k i || t) (rw (eq-eqb a k a_is, eq-eqb b i b_is) refl))
    by_place (no apart) =
        ap (λ n. not (eqb n 0)) (get_or-set_other v (16 * a + b) (16 * k + i) 1 0 (λ same. apart (sym same)))
        ∙ or_false (mark_at v k i)
        ∙ sym (ap (λ t. mark_at v k i || t) (elsewhere apart))

-- ---- what is kept of marks that are some steps', one of them left in each column

pub marks_kept : (J : ℕ) (o : Observations) (struck : Step → Bool) → EachLeft J struck
    → ((k i : ℕ) → k < parts J → i < steps_of J k → mark_at o.struck k i ≡ struck (step_of J k i)) → struck_in J o ≡ marks_of J struck
unfolding struck_in marks_of left_beside
marks_kept J o struck h are =
    tab_cong 0 (parts J) (λ k _ k-to. tab_cong 0 (steps_of J k) (λ i _ i-to.
    ap (λ t. cond t false (mark_at o.struck k i)) (some_left k (omega arith)) ∙ are k i (omega arith) (omega arith)))
  where
    counted : (k : ℕ) → k < parts J → left_of (steps_of J k) (λ i. struck (step_of J k i)) ≡ unmarked o.struck k (steps_of J k)
    counted k below = total_cong (steps_of J k) (λ i there. ap (λ t. cond t 0 1) (sym (are k i below there)))

    each : (k : ℕ) → k < parts J → 1 ≤ left_of (steps_of J k) (λ i. struck (step_of J k i))
    each =
        by_part J (λ k. 1 ≤ left_of (steps_of J k) (λ i. struck (step_of J k i)))
        (λ j few. back j (part_by_index_phi J j few) (h.paid j few))
        (λ j below. back (psi_index J j) (part_by_index_psi J j) (h.incurred j below))
      where
        back : (k : ℕ) {a : Part} → part_by_index J k ≡ a
            → 1 ≤ left_of (steps_in J (channel_of a) (column_of a)) (λ i. struck (step (channel_of a) i (column_of a)))
            → 1 ≤ left_of (steps_of J k) (λ i. struck (step_of J k i))
        back k is-a some =
            subst (λ a. 1 ≤ left_of (steps_in J (channel_of a) (column_of a)) (λ i. struck (step (channel_of a) i (column_of a))))
            (sym is-a) some

    some_left : (k : ℕ) → k < parts J → eqb (unmarked o.struck k (steps_of J k)) 0 ≡ false
    some_left k below = ne_eqb (unmarked o.struck k (steps_of J k)) 0 (λ none. omega (arith, none, counted k below, each k below))
