-- `residue_at` meets its contract: what the prior and the own observations give, and what the ratios give by the part's rank and sign.
use Prim.Native.Nat.{ℕ, ◌+◌, ◌-◌, ◌^◌, ◌≤◌, ◌<◌}
use mathlib.Core.Path.{◌≡◌, sym, ap, ap₂, ◌∙◌}
use mathlib.Core.List.{List, [], ◌∷◌}
use native.Mathlib.Nat.{le_refl}
use native.Mathlib.Omega.{arith}
use borrow.Author.Rules.{rules}
use lib.IntN.{ℤ, negsuc, nat_abs, ◌+ℤ◌, ◌-ℤ◌, ◌*ℤ◌}
use mir.Syntax.{w64}
use mir.Facts.{to_z-of_z}
use Rattle.integers.specs.Bits.{stored, same, read}
use Rattle.integers.specs.Ring.{*ℤ_idl}
use Rattle.integers.specs.Size.{nat_abs-+, nat_abs--, fits, kept}
use Rattle.integers.specs.Solver.{ring, ◌⊞◌, ◌⊟◌, ◌⊠◌, ⊖◌, num, ◌≐◌}
use Rattle.integers.specs.Sum.{sum}
use Rattle.definitions.specs.Words.{part}
use Rattle.definitions.specs.Observations.{Chain}
use Rattle.definitions.specs.Matrix.{Part, part_by_index}
use Rattle.definitions.specs.Kept.{steps_of}
use Rattle.laws.specs.Ranks.{rank_of, sign_of}
use Rattle.laws.proofs.Ranks.{part_by_index_phi, part_psi}
use Rattle.observations.specs.declared.Observations.{Observations}
use Rattle.observations.specs.Arrays.{observations_at}
use Rattle.differences.specs.Differences.{left_in, prior_term, step_term}
use Rattle.differences.proofs.DifferenceLaws.{prior_small, steps_small}
use Rattle.differences.proofs.kept.Kept.residue_at.Goals as goal
use Rattle.differences.proofs.kept.Kept.residue_at.Goals.{After-prior_missed, Else-k-years, Then-k-years}

-- what the part misses of its own
module _ (c : After-prior_missed) (variances : List ℕ) where
  abbrev J : ℕ
  J = c.args.self.now.last

  abbrev k : ℕ
  k = c.args.k

  abbrev v : ℤ
  v = c.args.value

  abbrev a : Part
  a = part_by_index J k

  abbrev o : Observations
  o = observations_at c.args.self.now.ticks.now c.args.self.now.weights.now variances c.args.self.now.struck.now

  abbrev left : Chain
  left = left_in J o

  abbrev steps : ℤ
  steps = sum (steps_of J k) (step_term left a v)

  abbrev own : ℤ
  own = prior_term left a v +ℤ steps

  held : stored v ≡ v
  held = to_z-of_z c.ranges.value

  own_is : stored c.prior_missed.result +ℤ stored c.steps_missed-steps.result ≡ own
  own_is = ap₂ ◌+ℤ◌
      (same _ c.prior_missed.type_inv ∙ c.prior_missed.ensures.is variances c.args.self.now.struck.now ∙ ap (prior_term left a) held)
      (same _ c.steps_missed-steps.type_inv ∙ c.steps_missed-steps.ensures.is variances
      ∙ ap (λ z. sum (steps_of J k) (step_term left a z)) held)

  own_small : nat_abs own ≤ 2 ^ 60
  own_small =
      omega (
        arith,
        nat_abs-+ (prior_term left a v) steps,
        prior_small J o c.args.self.now.few k c.requires.below v c.requires.small,
        steps_small J o c.args.self.now.few k c.requires.below v c.requires.small (steps_of J k) (le_refl _),
      )

  own_fits : nat_abs own < 2 ^ 63
  own_fits = omega (arith, own_small)

  -- of the first n development years
  abbrev shared : ℕ → ℤ
  shared = part c.args.shared.now

  shared_is : (n : ℕ) → n ≤ J → stored (shared n) ≡ shared n
  shared_is n few = read (shared n) (omega (arith, c.requires.shared_small n few))

pub overflow_add-own : goal.overflow_add-own
overflow_add-own c = fits (own_is c []) (own_fits c [])

pub offset_bounds-shared-k : goal.offset_bounds-shared-k
offset_bounds-shared-k c = search rules

-- of a Φ
module _ (c : Then-k-years) (variances : List ℕ) where
  abbrev after_prior_missed : After-prior_missed
  after_prior_missed = (goal.at.offset_bounds-shared-k c).After-prior_missed

  few : k after_prior_missed variances ≤ J after_prior_missed variances
  few = c.if-k-years.true

  phi_sum : stored (stored c.prior_missed.result +ℤ stored c.steps_missed-steps.result)
      +ℤ stored (shared after_prior_missed variances (k after_prior_missed variances))
      ≡ own after_prior_missed variances +ℤ shared after_prior_missed variances (k after_prior_missed variances)
  phi_sum =
      ap₂ ◌+ℤ◌ (kept w64 (own_is after_prior_missed variances) (own_fits after_prior_missed variances))
      (shared_is after_prior_missed variances (k after_prior_missed variances) few)

  phi_small : nat_abs (own after_prior_missed variances +ℤ shared after_prior_missed variances (k after_prior_missed variances)) < 2 ^ 63
  phi_small =
      omega (
        arith,
        nat_abs-+ (own after_prior_missed variances) (shared after_prior_missed variances (k after_prior_missed variances)),
        own_small after_prior_missed variances,
        c.requires.shared_small (k after_prior_missed variances) few,
      )

  phi_is : own after_prior_missed variances +ℤ shared after_prior_missed variances (k after_prior_missed variances)
      ≡ own after_prior_missed variances +ℤ sign_of (a after_prior_missed variances)
      *ℤ shared after_prior_missed variances (rank_of (a after_prior_missed variances))
  phi_is = ap (λ z. own after_prior_missed variances +ℤ z)
      (sym (ap (λ p. sign_of p *ℤ shared after_prior_missed variances (rank_of p))
      (part_by_index_phi (J after_prior_missed variances) (k after_prior_missed variances) few)
      ∙ *ℤ_idl (shared after_prior_missed variances (k after_prior_missed variances))))

pub overflow_add-result : goal.overflow_add-result
overflow_add-result c =
    let then_k_years = (goal.at.overflow_add-result c).Then-k-years in
    fits (phi_sum then_k_years []) (phi_small then_k_years [])

pub returns-then-k-years : goal.returns-then-k-years
returns-then-k-years c =
    let then_k_years = (goal.at.returns-then-k-years c).Then-k-years in
    record { is = λ variances. kept w64 (phi_sum then_k_years variances) (phi_small then_k_years variances) ∙ phi_is then_k_years variances }

pub overflow_sub-result : goal.overflow_sub-result
overflow_sub-result c = search rules

-- of a Ψ
module _ (c : Else-k-years) (variances : List ℕ) where
  abbrev missed_before : After-prior_missed
  missed_before = (goal.at.overflow_sub-result c).After-prior_missed

  abbrev rank : ℕ
  rank = k missed_before variances - J missed_before variances

  past : J missed_before variances < k missed_before variances
  past = omega (arith, c.if-k-years.false)

  rank_few : rank ≤ J missed_before variances
  rank_few = omega (arith, c.requires.below)

  psi_sum : stored (stored c.prior_missed.result +ℤ stored c.steps_missed-steps.result) -ℤ stored (shared missed_before variances rank)
      ≡ own missed_before variances -ℤ shared missed_before variances rank
  psi_sum = ap₂ ◌-ℤ◌ (kept w64 (own_is missed_before variances) (own_fits missed_before variances)) (shared_is missed_before variances rank rank_few)

  psi_small : nat_abs (own missed_before variances -ℤ shared missed_before variances rank) < 2 ^ 63
  psi_small =
      omega (
        arith,
        nat_abs-- (own missed_before variances) (shared missed_before variances rank),
        own_small missed_before variances,
        c.requires.shared_small rank rank_few,
      )

  psi_is : own missed_before variances -ℤ shared missed_before variances rank
      ≡ own missed_before variances +ℤ sign_of (a missed_before variances) *ℤ shared missed_before variances (rank_of (a missed_before variances))
  psi_is =
      let rank_is : k missed_before variances - (J missed_before variances + 1) + 1 ≡ rank = omega (arith, past) in
      ring (own missed_before variances ∷ shared missed_before variances rank ∷ []) (λ o r. o ⊟ r ≐ o ⊞ ⊖ num 1 ⊠ r) tt
      ∙ ap (λ z. own missed_before variances +ℤ z)
      (sym (ap (λ p. sign_of p *ℤ shared missed_before variances (rank_of p)) (part_psi (J missed_before variances) (k missed_before variances) past)
      ∙ ap (λ n. negsuc 0 *ℤ shared missed_before variances n) rank_is))

pub overflow_sub-result-else-k-years : goal.overflow_sub-result-else-k-years
overflow_sub-result-else-k-years c =
    let else_k_years = (goal.at.overflow_sub-result-else-k-years c).Else-k-years in
    fits (psi_sum else_k_years []) (psi_small else_k_years [])

pub returns-else-k-years : goal.returns-else-k-years
returns-else-k-years c =
    let else_k_years = (goal.at.returns-else-k-years c).Else-k-years in
    record { is = λ variances. kept w64 (psi_sum else_k_years variances) (psi_small else_k_years variances) ∙ psi_is else_k_years variances }
