-- What a session keeps is inside its limits, whatever stands in its arrays: the chain that is made of it is bounded, and each of its
-- observations counts. Arrays that are brought inside hold that chain, and keep what was kept.
use Prim.Native.Nat.{ℕ, zero, suc, ◌+◌, ◌*◌, ◌-◌, ◌^◌, ◌≤◌, ◌<◌, min}
use Rattle.std.specs.Prelude.{◌≡◌, refl, Bool, cond, List, ℤ, pos, negsuc, nat_abs}
use Rattle.std.proofs.Common.{sym, ◌∙◌, arith, lt-ltb, le-ltb}
use Rattle.std.proofs.Math.Path.{ap, ap₂}
use Rattle.std.proofs.Math.IntN.{◌-ℤ◌}
use Rattle.integers.specs.Linear.{linear}
use Rattle.definitions.specs.Words.{part}
use Rattle.definitions.specs.Layout.{parts, psi_index, cells, row_start}
use Rattle.definitions.specs.Refusals.{part_limit}
use Rattle.definitions.specs.Sweep.{bring_back}
use Rattle.definitions.specs.Strikes.{Step, step, without}
use Rattle.definitions.specs.Kept.{Observed, paid_step_in, chain_in, channel_of, column_of, step_of, steps_of}
use Rattle.laws.proofs.Cells.{cell_below, cells_few}
use Rattle.laws.specs.Chains.{observed_limit, Bounded, Counted}
use Rattle.laws.proofs.Marks.{steps_phi, steps_psi}
use Rattle.laws.proofs.Ranks.{part_by_index_phi, part_by_index_psi}
use Rattle.laws.specs.SameChains.{SameChain}
use Rattle.laws.proofs.StepLaws.{bring_back_inside, bring_back_of_inside}
use Rattle.laws.proofs.Tables.{tab_at, tab_cong}
use Rattle.observations.specs.declared.Observations.{Observations}
use Rattle.observations.specs.Arrays.{at, mean_at, prior_at, ratio_at, mark_at, brought_within, log_within, observations_at, observed_in}
use Rattle.observations.specs.HoldsChain.{chain_at}
use Rattle.observations.specs.Inside.{TicksInside, least_weight, most_weight, WeightsInside}
use Rattle.observations.proofs.InsideLaws.{log_small}

-- ---- a logarithm that is inside

log_is : (z : ℤ) → (n : ℕ) × (log_within z ≡ pos n) × (n ≤ observed_limit)
unfolding log_within
log_is (pos n) = (min observed_limit n, refl, omega arith)
log_is (negsuc n) = (0, refl, omega arith)

difference_small : (y z : ℤ) → nat_abs (log_within y -ℤ log_within z) ≤ observed_limit
difference_small y z =
    let m = log_is y in
    let n = log_is z in
    rw (m.1, n.1) (between m.0 n.0 m.2 n.2)
  where
    between : (m n : ℕ) → m ≤ observed_limit → n ≤ observed_limit → nat_abs (pos m -ℤ pos n) ≤ observed_limit
    between m n m-to n-to = simp linear (omega arith)

log_again : (z : ℤ) → log_within (log_within z) ≡ log_within z
unfolding log_within
log_again (pos n) = ap pos (again observed_limit n)
  where
    again : (m n : ℕ) → min m (min m n) ≡ min m n
    again m n = omega arith
log_again (negsuc n) = ap pos (none observed_limit)
  where
    none : (m : ℕ) → min m 0 ≡ 0
    none m = omega arith

within_again : (lo hi v : ℕ) → lo ≤ hi → brought_within lo hi (brought_within lo hi v) ≡ brought_within lo hi v
within_again lo hi v h = omega arith

-- ---- by place

module _ (J : ℕ) (o : Observations) where
  abbrev kept : Observed
  kept = observed_in J o

  pub log_at_lem : (c : ℕ) → c < 2 * cells J → part (observed_in J o).logarithms c ≡ log_within (part o.ticks c)
  unfolding observed_in
  log_at_lem c below = tab_at (2 * cells J) (λ c. log_within (part o.ticks c)) c (pos 0) below

  pub variance_at_lem : (k : ℕ) → k < parts J → at (observed_in J o).variances k ≡ brought_within (2 ^ 18) (2 ^ 40) (at o.variances k)
  unfolding observed_in
  variance_at_lem k below = tab_at (parts J) (λ k. brought_within (2 ^ 18) (2 ^ 40) (at o.variances k)) k 0 below

  pub weight_at : (k : ℕ) → k < parts J → at (observed_in J o).weights k ≡ brought_within 1 (2 ^ 28) (at o.weights k)
  unfolding observed_in
  weight_at k below = tab_at (parts J) (λ k. brought_within 1 (2 ^ 28) (at o.weights k)) k 0 below

  pub prior_at_lem : (k : ℕ) → k < parts J → at (observed_in J o).prior_weights k ≡ brought_within 0 (2 ^ 28) (prior_at o.weights k)
  unfolding observed_in
  prior_at_lem k below = tab_at (parts J) (λ k. brought_within 0 (2 ^ 28) (prior_at o.weights k)) k 0 below

  pub ratio_at_lem : (d : ℕ) → d < J → at (observed_in J o).ratio_weights d ≡ brought_within 0 (2 ^ 27) (ratio_at o.weights d)
  unfolding observed_in
  ratio_at_lem d below = tab_at J (λ d. brought_within 0 (2 ^ 27) (ratio_at o.weights d)) d 0 below

  pub mean_at_lem : (k : ℕ) → k < parts J → part (observed_in J o).prior_means k ≡ bring_back (mean_at o.ticks k)
  unfolding observed_in
  mean_at_lem k below = tab_at (parts J) (λ k. bring_back (mean_at o.ticks k)) k (pos 0) below

  -- ---- inside the limits

  pub paid_log : (i j : ℕ) → i + j ≤ J
      → part (observed_in J o).logarithms (row_start J i + j) ≡ log_within (part o.ticks (row_start J i + j))
  paid_log i j there = log_at_lem (row_start J i + j) (omega (arith, cell_below J i j there))

  pub incurred_log : (i j : ℕ) → i + j ≤ J
      → part (observed_in J o).logarithms (cells J + (row_start J i + j)) ≡ log_within (part o.ticks (cells J + (row_start J i + j)))
  incurred_log i j there = log_at_lem (cells J + (row_start J i + j)) (omega (arith, cell_below J i j there))

  x_small : (i j : ℕ) → i + j ≤ J → nat_abs (paid_step_in kept.logarithms J i j) ≤ observed_limit
  unfolding paid_step_in
  x_small i zero there = rw (paid_log i 0 there) (log_small _)
  x_small i (suc j) there = rw (paid_log i (suc j) there, paid_log i j (omega arith)) (difference_small _ _)

  weight_to : (k : ℕ) → k < parts J → at kept.weights k ≤ 2 ^ 28
  weight_to k below = omega (arith, weight_at k below)

  prior_to : (k : ℕ) → k < parts J → at kept.prior_weights k ≤ 2 ^ 28
  prior_to k below = omega (arith, prior_at_lem k below)

  mean_to : (k : ℕ) → k < parts J → nat_abs (part kept.prior_means k) ≤ part_limit
  mean_to k below = rw (mean_at_lem k below) (bring_back_inside (mean_at o.ticks k))

  pub kept_bounded : J ≤ 15 → Bounded (chain_in J (observed_in J o))
  kept_bounded years = record {
    years = years;
    p_to = λ i j there. weight_to j (omega arith);
    q_to = λ i j there. weight_to (psi_index J j) (omega arith);
    s_to = λ j few. prior_to j (omega arith);
    t_to = λ j below. prior_to (psi_index J j) (omega arith);
    g_to = λ d below. omega (arith, ratio_at_lem d below);
    x_to = x_small;
    z_to = λ i j there. rw (incurred_log i (j + 1) (omega arith), incurred_log i j (omega arith)) (difference_small _ _);
    y_to = λ i few. rw (incurred_log i (J - i) (omega arith), paid_log i (J - i) (omega arith)) (difference_small _ _);
    prior_Φ_to = λ j few. mean_to j (omega arith);
    prior_Ψ_to = λ j below. mean_to (psi_index J j) (omega arith);
  }

  pub kept_counted : Counted (chain_in J (observed_in J o))
  kept_counted = record {
    x_counts = λ i j there. omega (arith, weight_at j (omega arith));
    z_counts = λ i j there. omega (arith, weight_at (psi_index J j) (omega arith));
  }

-- ---- arrays that are brought inside

least_of : (n c : ℕ) → c < n → least_weight n c ≡ 1
least_of n c below = ap (λ t. cond t 1 0) (lt-ltb c n below)

least_behind : (n c : ℕ) → n ≤ c → least_weight n c ≡ 0
least_behind n c past = ap (λ t. cond t 1 0) (le-ltb c n past)

most_before : (c : ℕ) → c < 62 → most_weight c ≡ 2 ^ 28
most_before c below = ap (λ t. cond t (2 ^ 28) (2 ^ 27)) (lt-ltb c 62 below)

most_behind : (c : ℕ) → 62 ≤ c → most_weight c ≡ 2 ^ 27
most_behind c past = ap (λ t. cond t (2 ^ 28) (2 ^ 27)) (le-ltb c 62 past)

module _ (J : ℕ) (years : J ≤ 15) (o : Observations) {ticks : List ℤ} {weights : List ℕ} (t : TicksInside o.ticks ticks)
    (w : WeightsInside (parts J) o.weights weights) where
  -- ---- by place

  pub tick_log : (c : ℕ) → c < 272 → part ticks c ≡ log_within (part o.ticks c)
  tick_log c below =
      t.filled.front c (omega arith)
      ∙ ap (λ b. cond b (log_within (part o.ticks c)) (bring_back (part o.ticks c))) (lt-ltb c 272 below)

  pub tick_mean : (k : ℕ) → k < 31 → mean_at ticks k ≡ bring_back (mean_at o.ticks k)
  tick_mean k below =
      t.filled.front (272 + k) (omega arith)
      ∙ ap (λ b. cond b (log_within (mean_at o.ticks k)) (bring_back (mean_at o.ticks k))) (le-ltb (272 + k) 272 (omega arith))

  within_as : {lo hi lo' hi' : ℕ} (v : ℕ) → lo ≡ lo' → hi ≡ hi' → brought_within lo hi v ≡ brought_within lo' hi' v
  within_as v lo-is hi-is = ap₂ (λ lo hi. brought_within lo hi v) lo-is hi-is

  pub column_weight : (k : ℕ) → k < parts J → at weights k ≡ brought_within 1 (2 ^ 28) (at o.weights k)
  column_weight k below =
      w.filled.front k (omega (arith, below, years))
      ∙ within_as _ (least_of (parts J) k below) (most_before k (omega (arith, below, years)))

  pub prior_weight_lem : (k : ℕ) → k < parts J → prior_at weights k ≡ brought_within 0 (2 ^ 28) (prior_at o.weights k)
  prior_weight_lem k below =
      w.filled.front (31 + k) (omega (arith, below, years))
      ∙ within_as _ (least_behind (parts J) (31 + k) (omega (arith, years))) (most_before (31 + k) (omega (arith, below, years)))

  pub ratio_weight : (d : ℕ) → d < J → ratio_at weights d ≡ brought_within 0 (2 ^ 27) (ratio_at o.weights d)
  ratio_weight d below =
      w.filled.front (62 + d) (omega (arith, below, years))
      ∙ within_as _ (least_behind (parts J) (62 + d) (omega (arith, years))) (most_behind (62 + d) (omega arith))

  -- ---- they hold the chain that is kept, without the steps that are marked

  log_kept : (c : ℕ) → c < 2 * cells J → part (observed_in J o).logarithms c ≡ part ticks c
  log_kept c below = log_at_lem J o c below ∙ sym (tick_log c (omega (arith, below, cells_few J years)))

  paid_kept : (i j : ℕ) → i + j ≤ J → part (observed_in J o).logarithms (row_start J i + j) ≡ part ticks (row_start J i + j)
  paid_kept i j there = log_kept (row_start J i + j) (omega (arith, cell_below J i j there))

  incurred_kept : (i j : ℕ) → i + j ≤ J
      → part (observed_in J o).logarithms (cells J + (row_start J i + j)) ≡ part ticks (cells J + (row_start J i + j))
  incurred_kept i j there = log_kept (cells J + (row_start J i + j)) (omega (arith, cell_below J i j there))

  x_kept : (i j : ℕ) → i + j ≤ J → paid_step_in (observed_in J o).logarithms J i j ≡ paid_step_in ticks J i j
  unfolding paid_step_in
  x_kept i zero there = paid_kept i 0 there
  x_kept i (suc j) there = ap₂ ◌-ℤ◌ (paid_kept i (suc j) there) (paid_kept i j (omega arith))

  weight_kept : (k : ℕ) → k < parts J → at (observed_in J o).weights k ≡ at weights k
  weight_kept k below = weight_at J o k below ∙ sym (column_weight k below)

  prior_kept : (k : ℕ) → k < parts J → at (observed_in J o).prior_weights k ≡ prior_at weights k
  prior_kept k below = prior_at_lem J o k below ∙ sym (prior_weight_lem k below)

  mean_kept : (k : ℕ) → k < parts J → part (observed_in J o).prior_means k ≡ mean_at ticks k
  mean_kept k below = mean_at_lem J o k below ∙ sym (tick_mean k (omega (arith, below, years)))

  module _ (marks : List ℕ) (struck : Step → Bool)
      (are : (k i : ℕ) → k < parts J → i < steps_of J k → mark_at marks k i ≡ struck (step_of J k i)) where
    x_marked : (i j : ℕ) → i + j ≤ J → struck (step 0 i j) ≡ mark_at marks j i
    x_marked i j there =
        sym (are j i (omega arith) (rw (steps_phi J j (omega arith)) (omega arith))
        ∙ ap (λ a. struck (step (channel_of a) i (column_of a))) (part_by_index_phi J j (omega arith)))

    z_marked : (i j : ℕ) → i + j < J → struck (step 1 i j) ≡ mark_at marks (psi_index J j) i
    z_marked i j there =
        sym (are (psi_index J j) i (omega arith) (rw (steps_psi J (psi_index J j) (omega arith)) (omega arith))
        ∙ ap (λ a. struck (step (channel_of a) i (column_of a))) (part_by_index_psi J j))

    pub holds_kept : SameChain (without struck (chain_in J (observed_in J o))) (chain_at J ticks weights marks)
    holds_kept = record {
      p = λ i j there. ap₂ (λ t n. cond t 0 n) (x_marked i j there) (weight_kept j (omega arith));
      q = λ i j there. ap₂ (λ t n. cond t 0 n) (z_marked i j there) (weight_kept (psi_index J j) (omega arith));
      s = λ j few. prior_kept j (omega arith);
      t = λ j below. prior_kept (psi_index J j) (omega arith);
      g = λ d below. ratio_at_lem J o d below ∙ sym (ratio_weight d below);
      x = x_kept;
      z = λ i j there. ap₂ ◌-ℤ◌ (incurred_kept i (j + 1) (omega arith)) (incurred_kept i j (omega arith));
      y = λ i few. ap₂ ◌-ℤ◌ (incurred_kept i (J - i) (omega arith)) (paid_kept i (J - i) (omega arith));
      prior_Φ = λ j few. mean_kept j (omega arith);
      prior_Ψ = λ j below. mean_kept (psi_index J j) (omega arith);
    }

  -- ---- and keep what was kept

  pub kept_still : (marks : List ℕ) → observed_in J (observations_at ticks weights o.variances marks) ≡ observed_in J o
  unfolding observed_in
  kept_still marks = λ i. record {
    logarithms = tab_cong 0 (2 * cells J) (λ c _ to.
        ap log_within (tick_log c (omega (arith, cells_few J years))) ∙ log_again (part o.ticks c)) i;
    variances = (observed_in J o).variances;
    weights = tab_cong 0 (parts J) (λ k _ to.
        ap (brought_within 1 (2 ^ 28)) (column_weight k (omega arith)) ∙ within_again 1 (2 ^ 28) (at o.weights k) (omega arith)) i;
    prior_weights = tab_cong 0 (parts J) (λ k _ to.
        ap (brought_within 0 (2 ^ 28)) (prior_weight_lem k (omega arith)) ∙ within_again 0 (2 ^ 28) (prior_at o.weights k) (omega arith)) i;
    ratio_weights = tab_cong 0 J (λ d _ to.
        ap (brought_within 0 (2 ^ 27)) (ratio_weight d (omega arith)) ∙ within_again 0 (2 ^ 27) (ratio_at o.weights d) (omega arith)) i;
    prior_means = tab_cong 0 (parts J) (λ k _ to.
        ap bring_back (tick_mean k (omega (arith, years)))
        ∙ bring_back_of_inside (bring_back (mean_at o.ticks k)) (bring_back_inside (mean_at o.ticks k))) i;
  }
