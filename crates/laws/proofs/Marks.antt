-- What a session keeps in the place of a file: the marks of its struck steps are read back as they were put there, its lists hold the
-- file's chain, and a step that is struck out of the one is struck out of the other.
use Prim.Native.Nat.{ℕ, zero, suc, ◌+◌, ◌*◌, ◌-◌, ◌≤◌, ◌<◌}
use Rattle.std.specs.Prelude.{◌≡◌, Bool, cond, ◌||◌, pos}
use Rattle.std.proofs.Math.Path.{sym, ap, ap₂}
use Rattle.std.proofs.Common.{◌∙◌, lt_of_not-le, arith}
use Rattle.std.proofs.Math.Bool.{false}
use mathlib.Core.List.{[], ◌∷◌}
use Rattle.std.proofs.Math.Decide.{dec_le}
use Rattle.std.proofs.Math.IntN.{◌-ℤ◌}
use Rattle.std.proofs.Math.ListN.{get_or}
use Rattle.definitions.specs.Words.{tab_from, part}
use Rattle.definitions.specs.Layout.{Bytes, last_year, closeness, parts, psi_index, cells, row_start, variance_of, prior_variance, prior_mean, amount}
use Rattle.definitions.specs.Layout.{paid, incurred}
use Rattle.definitions.specs.Weight.{weight}
use Rattle.definitions.specs.Observations.{Chain, chain_of, log_of, ratio_variance, paid_step, incurred_step, last_ratio}
use Rattle.definitions.specs.Matrix.{Part, Φ, Ψ, part_by_index, figures_from}
use Rattle.definitions.specs.Strikes.{Step, step, same_step, steps_in, without, StruckFile, is_struck, chain_left}
use Rattle.definitions.specs.Kept.{channel_of, column_of, step_of, steps_of, marks_of, marked}
use Rattle.definitions.specs.Kept.{observed_of, paid_step_in, chain_in, kept_of, chain_kept, with_struck}
use Rattle.laws.proofs.Cells.{cell_below}
use Rattle.laws.proofs.Ranks.{part_by_index_phi, part_by_index_psi, part_psi}
use Rattle.laws.specs.SameChains.{SameChain}
use Rattle.laws.proofs.SameChains.{IsPart, is_part, same_figures}
use Rattle.laws.proofs.Tables.{tab_at, tab_cong}

-- ---- how many steps a part has

pub steps_phi : (J k : ℕ) → k ≤ J → steps_of J k ≡ J - k + 1
steps_phi J k few = ap (λ a. steps_in J (channel_of a) (column_of a)) (part_by_index_phi J k few)

pub steps_psi : (J k : ℕ) → J < k → steps_of J k ≡ 2 * J + 1 - k
steps_psi J k past = ap (λ a. steps_in J (channel_of a) (column_of a)) (part_psi J k past) ∙ turned J k past
  where
    turned : (J k : ℕ) → J < k → J - (k - (J + 1)) ≡ 2 * J + 1 - k
    turned J k past = omega arith

-- at least one, and at most 16
pub steps_some : (J k : ℕ) → k < parts J → 1 ≤ steps_of J k
steps_some J k below = by_side (dec_le k J)
  where
    by_side : Dec (k ≤ J) → 1 ≤ steps_of J k
    by_side (yes few) = rw (steps_phi J k few) (omega arith)
    by_side (no above) = rw (steps_psi J k (lt_of_not-le above)) (omega arith)

pub steps_few : (J k : ℕ) → J ≤ 15 → steps_of J k ≤ 16
steps_few J k years = by_side (dec_le k J)
  where
    by_side : Dec (k ≤ J) → steps_of J k ≤ 16
    by_side (yes few) = rw (steps_phi J k few) (omega arith)
    by_side (no above) = let past = lt_of_not-le above in rw (steps_psi J k past) (omega arith)

-- ---- marks

module _ (J : ℕ) (struck : Step → Bool) where
  -- of part k, which is a, and accident year i
  mark_at_lem : (k i : ℕ) {a : Part} → k < parts J → part_by_index J k ≡ a → i < steps_in J (channel_of a) (column_of a)
      → get_or (get_or (marks_of J struck) k []) i false ≡ struck (step (channel_of a) i (column_of a))
  unfolding marks_of
  mark_at_lem k i below is-a there =
      ap (λ row. get_or row i false) (tab_at (parts J) (λ k. tab_from 0 (steps_of J k) (λ i. struck (step_of J k i))) k [] below)
      ∙ ap (λ a. get_or (tab_from 0 (steps_in J (channel_of a) (column_of a)) (λ i. struck (step (channel_of a) i (column_of a)))) i false) is-a
      ∙ tab_at _ _ i false there

  pub marked_x : (i j : ℕ) → i + j ≤ J → marked J (marks_of J struck) (step 0 i j) ≡ struck (step 0 i j)
  unfolding marked
  marked_x i j there = mark_at_lem j i (omega arith) (part_by_index_phi J j (omega arith)) (omega arith)

  pub marked_z : (i j : ℕ) → i + j < J → marked J (marks_of J struck) (step 1 i j) ≡ struck (step 1 i j)
  unfolding marked
  marked_z i j there = mark_at_lem (psi_index J j) i (omega arith) (part_by_index_psi J j) (omega arith)

-- two that agree on every step that there is
pub marks_cong : (J : ℕ) (a b : Step → Bool) → ((i j : ℕ) → i + j ≤ J → a (step 0 i j) ≡ b (step 0 i j))
    → ((i j : ℕ) → i + j < J → a (step 1 i j) ≡ b (step 1 i j)) → marks_of J a ≡ marks_of J b
unfolding marks_of
marks_cong J a b xs zs =
    tab_cong 0 (parts J) (λ k _ to. tab_cong 0 (steps_of J k) (λ i _ below.
    by_kind i (part_by_index J k) (is_part J k (omega arith)) (omega arith)))
  where
    by_kind : (i : ℕ) (p : Part) → IsPart J p → i < steps_in J (channel_of p) (column_of p)
        → a (step (channel_of p) i (column_of p)) ≡ b (step (channel_of p) i (column_of p))
    by_kind i (Φ j) few there = xs i j (omega arith)
    by_kind i (Ψ j) below there = zs i j (omega arith)

-- ---- a file's lists hold its chain

module _ (f : Bytes) where
  abbrev J : ℕ
  J = last_year f

  log_at_lem : (c : ℕ) → c < 2 * cells J → log_of (amount f c) ≡ part (observed_of f).logarithms c
  log_at_lem c below = sym (tab_at (2 * cells J) (λ c. log_of (amount f c)) c (pos 0) below)

  paid_at_lem : (i j : ℕ) → i + j ≤ J → log_of (paid f i j) ≡ part (observed_of f).logarithms (row_start J i + j)
  paid_at_lem i j there = log_at_lem (row_start J i + j) (omega (arith, cell_below J i j there))

  incurred_at_lem : (i j : ℕ) → i + j ≤ J → log_of (incurred f i j) ≡ part (observed_of f).logarithms (cells J + (row_start J i + j))
  incurred_at_lem i j there = log_at_lem (cells J + (row_start J i + j)) (omega (arith, cell_below J i j there))

  x_at : (i j : ℕ) → i + j ≤ J → paid_step f i j ≡ paid_step_in (observed_of f).logarithms J i j
  unfolding paid_step paid_step_in
  x_at i zero there = paid_at_lem i 0 there
  x_at i (suc j) there = ap₂ ◌-ℤ◌ (paid_at_lem i (suc j) there) (paid_at_lem i j (omega arith))

  pub kept_chain : SameChain (chain_of f) (chain_in (last_year f) (observed_of f))
  unfolding incurred_step last_ratio
  kept_chain = record {
    p = λ i j there. sym (tab_at (parts J) (λ k. weight (variance_of f k)) j 0 (omega arith));
    q = λ i j there. sym (tab_at (parts J) (λ k. weight (variance_of f k)) (psi_index J j) 0 (omega arith));
    s = λ j few. sym (tab_at (parts J) (λ k. weight (prior_variance f k)) j 0 (omega arith));
    t = λ j below. sym (tab_at (parts J) (λ k. weight (prior_variance f k)) (psi_index J j) 0 (omega arith));
    g = λ d below. sym (tab_at J (λ d. weight (ratio_variance f d)) d 0 below);
    x = x_at;
    z = λ i j there. ap₂ ◌-ℤ◌ (incurred_at_lem i (j + 1) (omega arith)) (incurred_at_lem i j (omega arith));
    y = λ i few. ap₂ ◌-ℤ◌ (incurred_at_lem i (J - i) (omega arith)) (paid_at_lem i (J - i) (omega arith));
    prior_Φ = λ j few. sym (tab_at (parts J) (prior_mean f) j (pos 0) (omega arith));
    prior_Ψ = λ j below. sym (tab_at (parts J) (prior_mean f) (psi_index J j) (pos 0) (omega arith));
  }

-- ---- one step more struck out

-- a chain without some steps, where both agree
pub same_without : {c d : Chain} (a b : Step → Bool) → SameChain c d
    → ((i j : ℕ) → i + j ≤ c.last → a (step 0 i j) ≡ b (step 0 i j))
    → ((i j : ℕ) → i + j < c.last → a (step 1 i j) ≡ b (step 1 i j)) → SameChain (without a c) (without b d)
same_without a b h xs zs = record {
  p = λ i j there. ap₂ (λ t w. cond t 0 w) (xs i j there) (h.p i j there);
  q = λ i j there. ap₂ (λ t w. cond t 0 w) (zs i j there) (h.q i j there);
  s = h.s;
  t = h.t;
  g = h.g;
  x = h.x;
  z = h.z;
  y = h.y;
  prior_Φ = h.prior_Φ;
  prior_Ψ = h.prior_Ψ;
}

-- what a session keeps holds the observations that are left of the file
pub chain_kept_lem : (f : StruckFile) → SameChain (chain_left f) (chain_kept (kept_of f))
unfolding figures_from
chain_kept_lem f =
    let J : ℕ = last_year f.file in
    same_without (is_struck f) (marked J (marks_of J (is_struck f))) (kept_chain f.file)
    (λ i j there. sym (marked_x J (is_struck f) i j there)) (λ i j there. sym (marked_z J (is_struck f) i j there))

module _ (f : StruckFile) (s : Step) where
  abbrev years : ℕ
  years = last_year f.file

  -- of the file, and of what is kept of it
  abbrev more : Step → Bool
  more t = is_struck f t || same_step s t

  abbrev more_kept : Step → Bool
  more_kept t = marked years (marks_of years (is_struck f)) t || same_step s t

  x_more : (i j : ℕ) → i + j ≤ years → more (step 0 i j) ≡ more_kept (step 0 i j)
  x_more i j there = ap (λ t. t || same_step s (step 0 i j)) (sym (marked_x years (is_struck f) i j there))

  z_more : (i j : ℕ) → i + j < years → more (step 1 i j) ≡ more_kept (step 1 i j)
  z_more i j there = ap (λ t. t || same_step s (step 1 i j)) (sym (marked_z years (is_struck f) i j there))

  pub struck_alike : kept_of (record { file = f.file; struck = s ∷ f.struck }) ≡ with_struck s (kept_of f)
  unfolding figures_from
  struck_alike = λ i. record {
    figures = same_figures (without more (chain_of f.file)) (without more_kept (chain_in years (observed_of f.file)))
        (same_without more more_kept (kept_chain f.file) x_more z_more) (closeness f.file) i;
    observed = observed_of f.file;
    struck = marks_cong years more more_kept x_more z_more i;
  }
