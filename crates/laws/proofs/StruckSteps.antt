-- How many steps of a column are left: where there is one it can be named, one more struck leaves one less, and so a strike that 27 lets
-- pass leaves a step in each column.
use Prim.Native.Nat.{ℕ, zero, suc, ◌+◌, ◌*◌, ◌-◌, ◌≤◌, ◌<◌}
use Rattle.std.specs.Prelude.{◌≡◌, ◌≢◌, true, false, ◌&&◌, ◌||◌, leb, eqb}
use Rattle.std.proofs.Math.Path.{refl, ap}
use Rattle.std.proofs.Common.{sym, subst, ◌∙◌, arith, eqb→eq, ne_eqb}
use Rattle.std.proofs.Math.Bool.{Bool, not, cond}
use Rattle.std.proofs.lemmas.Bool.{eqb-false}
use Rattle.std.proofs.Math.Decide.{ℕ_discrete}
use Rattle.std.proofs.Math.Dec.{T, leb→le, eqb_refl}
use Rattle.integers.specs.Sum.{total}
use Rattle.integers.specs.Total.{total_cong, total_const, total-+, total_term}
use Rattle.definitions.specs.Refusals.{Check, clear, unless, ◌then◌, is_clear}
use Rattle.definitions.specs.Strikes.{Step, step, same_step, is_step, left_beside, EachLeft, strike_check}
use Rattle.laws.proofs.ClearChecks.{then_clear, unless_clear}
use Rattle.laws.specs.StruckSteps.{Strikable, OneLess, left_of}

-- ---- one that is left

pub some_left : (n : ℕ) (m : ℕ → Bool) → 1 ≤ left_of n m → (i : ℕ) × (i < n) × (m i ≡ false)
unfolding total
some_left zero m some = absurd (omega arith)
some_left (suc n) m some = by_last (m n) refl some (some_left n m)
  where
    by_last : (t : Bool) → m n ≡ t → 1 ≤ left_of n m + cond t 0 1 → (1 ≤ left_of n m → (i : ℕ) × (i < n) × (m i ≡ false))
        → (i : ℕ) × (i < suc n) × (m i ≡ false)
    by_last false e some before = (n, omega arith, e)
    by_last true e some before = let found = before (omega arith) in (found.0, omega (arith, found.1), found.2)

-- and one that is named is left
pub left_some : (n : ℕ) (m : ℕ → Bool) (i : ℕ) → i < n → m i ≡ false → 1 ≤ left_of n m
left_some n m i below unmarked =
    let counts : ◌≡◌ {A = ℕ} (cond (m i) 0 1) 1 = ap (λ t. cond t 0 1) unmarked in
    omega (arith, total_term n i (λ i. cond (m i) 0 1) below, counts)

-- in every column
pub each_left : (J : ℕ) (struck : Step → Bool)
    → ((j : ℕ) → j ≤ J → (i : ℕ) × (i + j ≤ J) × (struck (step 0 i j) ≡ false))
    → ((j : ℕ) → j < J → (i : ℕ) × (i + j < J) × (struck (step 1 i j) ≡ false)) → EachLeft J struck
unfolding left_beside
each_left J struck x z = record {
  paid = λ j few. let i = x j few in left_some (J - j + 1) (λ i. struck (step 0 i j)) i.0 (omega (arith, i.1)) i.2;
  incurred = λ j below. let i = z j below in left_some (J - j) (λ i. struck (step 1 i j)) i.0 (omega (arith, i.1)) i.2;
}

-- ---- one more struck

none_of : (n a : ℕ) → n ≤ a → total n (λ i. cond (eqb a i) 1 0) ≡ 0
none_of n a past =
    total_cong n (λ i below. ap (λ t. cond t 1 0) (ne_eqb a i (λ same. omega arith))) ∙ total_const n 0 ∙ nothing n
  where
    nothing : (n : ℕ) → n * 0 ≡ 0
    nothing n = omega arith

one_of : (n a : ℕ) → a < n → total n (λ i. cond (eqb a i) 1 0) ≡ 1
unfolding total
one_of zero a below = absurd (omega arith)
one_of (suc n) a below = by_place (ℕ_discrete a n) (one_of n a)
  where
    yes_one : (t : Bool) → T t → 0 + cond t 1 0 ≡ 1
    yes_one true holds = refl
    yes_one false holds = elim holds [ ]

    by_place : Dec (a ≡ n) → (a < n → total n (λ i. cond (eqb a i) 1 0) ≡ 1)
        → total n (λ i. cond (eqb a i) 1 0) + cond (eqb a n) 1 0 ≡ 1
    by_place (yes here) before = rw (here, none_of n n (omega arith)) (yes_one (eqb n n) (eqb_refl n))
    by_place (no apart) before = rw (before (omega arith), ne_eqb a n apart) refl

pub one_less : (n a : ℕ) (m : ℕ → Bool) → OneLess n a m
one_less n a m below unmarked =
    total_cong n (λ i _. by_test i (eqb a i) refl)
    ∙ total-+ n (λ i. cond (m i || eqb a i) 0 1) (λ i. cond (eqb a i) 1 0)
    ∙ ap (λ k. left_of n (λ i. m i || eqb a i) + k) (one_of n a below)
  where
    alone : (t : Bool) → cond t 0 1 ≡ cond (t || false) 0 1 + 0
    alone true = refl
    alone false = refl

    by_test : (i : ℕ) (t : Bool) → eqb a i ≡ t → cond (m i) 0 1 ≡ cond (m i || t) 0 1 + cond t 1 0
    by_test i true e = rw (sym (ap m (eqb→eq a i (subst T (sym e) tt))), unmarked) refl
    by_test i false e = alone (m i)

-- two that are named are two
pub two_left : (n a b : ℕ) (m : ℕ → Bool) → a < n → b < n → a ≢ b → m a ≡ false → m b ≡ false → 2 ≤ left_of n m
two_left n a b m a-below b-below apart a-free b-free =
    let other : m b || eqb a b ≡ false = rw (b-free, ne_eqb a b apart) refl in
    omega (arith, one_less n a m a-below a-free, left_some n (λ i. m i || eqb a i) b b-below other)

-- ---- of each column

or_false : (t : Bool) → t || false ≡ t
or_false true = refl
or_false false = refl

and_false : (t : Bool) → t && false ≡ false
and_false true = refl
and_false false = refl

and_true : (t : Bool) → t && true ≡ t
and_true true = refl
and_true false = refl

-- a column is as it was, or has one step less
kept : (n : ℕ) (m r : ℕ → Bool) → ((k : ℕ) → r k ≡ false) → left_of n (λ k. m k || r k) ≡ left_of n m
kept n m r none = total_cong n (λ k _. ap (λ t. cond t 0 1) (ap (λ b. m k || b) (none k) ∙ or_false (m k)))

module _ (n i j l : ℕ) (m : ℕ → Bool) where
  column : 1 ≤ left_of n m → (j ≡ l → (i < n) × (m i ≡ false) × (2 ≤ left_of n m)) → 1 ≤ left_of n (λ k. m k || (eqb i k && eqb j l))
  column some here = by_test (eqb j l) refl
    where
      by_test : (t : Bool) → eqb j l ≡ t → 1 ≤ left_of n (λ k. m k || (eqb i k && t))
      by_test true e =
          let its = here (eqb→eq j l (subst T (sym e) tt)) in
          let same = total_cong n {f = λ k. cond (m k || (eqb i k && true)) 0 1}
          (λ k _. ap (λ b. cond (m k || b) 0 1) (and_true (eqb i k))) in
          omega (arith, same, one_less n i m its.0 its.1, its.2)
      by_test false e = omega (arith, kept n m (λ k. eqb i k && false) (λ k. and_false (eqb i k)), some)

-- a step that is there and not struck yet, and not the last one of its column
pub strike_leaves : (J : ℕ) (struck : Step → Bool) (s : Step) → EachLeft J struck → is_step J s ≡ true → struck s ≡ false
    → eqb (left_beside J struck s) 1 ≡ false → EachLeft J (λ t. struck t || same_step s t)
unfolding is_step left_beside
strike_leaves J struck (step zero i j) h there unstruck many = record {
  paid = λ l few. column (J - l + 1) i j l (λ k. struck (step 0 k l)) (h.paid l few) (λ same.
      let below : i + j ≤ J = leb→le (i + j) J (subst T (sym there) tt) in (
        omega (arith, below, same),
        ap (λ n. struck (step 0 i n)) (sym same) ∙ unstruck,
        let not_one = eqb-false (left_of (J - l + 1) (λ k. struck (step 0 k l))) 1
            (ap (λ n. eqb (left_of (J - n + 1) (λ k. struck (step 0 k n))) 1) (sym same) ∙ many) in
            omega (arith, h.paid l few, not_one),
      ));
  incurred = λ l below. subst (λ n. 1 ≤ n) (sym (kept (J - l) (λ k. struck (step 1 k l)) (λ k. false) (λ k. refl))) (h.incurred l below);
}
strike_leaves J struck (step (suc zero) i j) h there unstruck many = record {
  paid = λ l few. subst (λ n. 1 ≤ n) (sym (kept (J - l + 1) (λ k. struck (step 0 k l)) (λ k. false) (λ k. refl))) (h.paid l few);
  incurred = λ l below. column (J - l) i j l (λ k. struck (step 1 k l)) (h.incurred l below) (λ same.
      let placed : i + j < J = leb→le (suc (i + j)) J (subst T (sym there) tt) in (
        omega (arith, placed, same),
        ap (λ n. struck (step 1 i n)) (sym same) ∙ unstruck,
        let not_one = eqb-false (left_of (J - l) (λ k. struck (step 1 k l))) 1
            (ap (λ n. eqb (left_of (J - n) (λ k. struck (step 1 k n))) 1) (sym same) ∙ many) in
            omega (arith, h.incurred l below, not_one),
      ));
}
strike_leaves J struck (step (suc (suc channel)) i j) h there unstruck many = record {
  paid = λ l few. beside (J - l + 1) 0 l (λ same. omega arith) (h.paid l few);
  incurred = λ l below. beside (J - l) 1 l (λ same. omega arith) (h.incurred l below);
}
  where
    beside : (n d l : ℕ) → suc (suc channel) ≢ d → 1 ≤ left_of n (λ k. struck (step d k l))
        → 1 ≤ left_of n (λ k. struck (step d k l) || same_step (step (suc (suc channel)) i j) (step d k l))
    beside n d l apart some =
        subst (λ left. 1 ≤ left) (sym (kept n (λ k. struck (step d k l)) (λ k. same_step (step (suc (suc channel)) i j) (step d k l))
        (λ k. ap (λ t. t && (eqb i k && eqb j l)) (ne_eqb (suc (suc channel)) d apart)))) some

-- ---- the check of a strike

pub strikable : (J : ℕ) (struck : Step → Bool) (s : Step) → strike_check J struck s ≡ clear → Strikable J struck s
unfolding strike_check
strikable J struck (step c i j) e =
    let free : Bool = is_step J (step c i j) && not (struck (step c i j)) in
    let more : Bool = not (eqb (left_beside J struck (step c i j)) 1) in
    let first = then_clear {a = unless (leb c 1) 14 0} (ap is_clear e) in
    let second = then_clear {a = unless free 26 0} first.second in
    let both = and_both (is_step J (step c i j)) (struck (step c i j)) (unless_clear free 26 0 second.first) in
    record {
      there = both.0;
      unstruck = both.1;
      another = negated (eqb (left_beside J struck (step c i j)) 1) (unless_clear more 27 0 second.second);
    }
  where
    and_both : (p q : Bool) → T (p && not q) → (p ≡ true) × (q ≡ false)
    and_both true false h = (refl, refl)
    and_both false q h = elim h [ ]
    and_both true true h = elim h [ ]

    negated : (t : Bool) → T (not t) → t ≡ false
    negated false h = refl
    negated true h = elim h [ ]

pub strike_channel : (J : ℕ) (struck : Step → Bool) (c i j : ℕ) → strike_check J struck (step c i j) ≡ clear → c ≤ 1
unfolding strike_check
strike_channel J struck c i j e = leb→le c 1 (unless_clear (leb c 1) 14 0 (then_clear {a = unless (leb c 1) 14 0} (ap is_clear e)).first)

-- it depends on the steps that there are
module _ (J : ℕ) (a b : Step → Bool) (xs : (i j : ℕ) → i + j ≤ J → a (step 0 i j) ≡ b (step 0 i j))
    (zs : (i j : ℕ) → i + j < J → a (step 1 i j) ≡ b (step 1 i j)) where
  no_channel : (c : ℕ) {A : Type 0} → leb (suc (suc c)) 1 ≡ true → A
  no_channel c channel = absurd (omega (arith, leb→le (suc (suc c)) 1 (subst T (sym channel) tt)))

  struck_same : (c i j : ℕ) → leb c 1 ≡ true → is_step J (step c i j) ≡ true → a (step c i j) ≡ b (step c i j)
  unfolding is_step
  struck_same zero i j _ there = xs i j (leb→le (i + j) J (subst T (sym there) tt))
  struck_same (suc zero) i j _ there = zs i j (leb→le (suc (i + j)) J (subst T (sym there) tt))
  struck_same (suc (suc c)) i j channel there = no_channel c channel

  left_same : (c i j : ℕ) → leb c 1 ≡ true → is_step J (step c i j) ≡ true → left_beside J a (step c i j) ≡ left_beside J b (step c i j)
  unfolding is_step left_beside
  left_same zero i j _ there =
      let placed = leb→le (i + j) J (subst T (sym there) tt) in
      total_cong (J - j + 1) (λ k below. ap (λ t. cond t 0 1) (xs k j (omega (arith, placed))))
  left_same (suc zero) i j _ there = total_cong (J - j) (λ k below. ap (λ t. cond t 0 1) (zs k j (omega arith)))
  left_same (suc (suc c)) i j channel there = no_channel c channel

  pub check_cong : (s : Step) → strike_check J a s ≡ strike_check J b s
  unfolding strike_check
  check_cong (step c i j) = by_channel (leb c 1) refl (is_step J (step c i j)) refl
    where
      asked : (Step → Bool) → Bool → Bool → Check
      asked struck t u =
          unless t 14 0 then unless (u && not (struck (step c i j))) 26 0 then unless (not (eqb (left_beside J struck (step c i j)) 1)) 27 0

      by_channel : (t : Bool) → leb c 1 ≡ t → (u : Bool) → is_step J (step c i j) ≡ u → asked a t u ≡ asked b t u
      by_channel false channel u there = refl
      by_channel true channel false there = refl
      by_channel true channel true there = rw (struck_same c i j channel there, left_same c i j channel there) refl
