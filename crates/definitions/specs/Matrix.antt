-- Specification, "The figures" and "The test": own weight D, matrix A, right-hand side, residue and test. It is Theorem 3.4 of the
-- paper on rounded weights, the last sum of b_j as its proof has it.
use Rattle.std.specs.Prelude.{ℕ, zero, suc, ◌+◌, ◌*◌, ◌-◌, min, Bool, true, false, cond, List, [], ℤ, pos, nat_abs, neg_ℤ, ◌+ℤ◌, ◌-ℤ◌, ◌*ℤ◌, get_or, leb, eqb}
use Rattle.integers.specs.Summation.{sum, total}
use Rattle.definitions.specs.Words.{tab_from, part}
use Rattle.definitions.specs.Layout.{Bytes, closeness, parts}
use Rattle.definitions.specs.Observations.{Chain, chain_of}
use Rattle.definitions.specs.Loss.{Vector}

pub data Part : Type 0 where
  Φ : ℕ → Part
  Ψ : ℕ → Part

-- part k of a mean: Φ first
unfoldable pub part_by_index : ℕ → ℕ → Part
part_by_index J k = cond (leb k J) (Φ k) (Ψ (k - (J + 1)))

module _ (c : Chain) where
  -- D: the weights of a part's own observations and of its prior
  abbrev pub own_of : Part → ℕ
  own_of (Φ j) = c.s j + total (c.last - j + 1) (λ i. c.p i j)
  own_of (Ψ j) = c.t j + total (c.last - j) (λ i. c.q i j)

  -- the first n of the g
  abbrev pub shared_by : ℕ → ℤ
  shared_by n = sum n (λ i. pos (c.g i))

  abbrev pub on_diagonal : ℕ → ℕ → ℕ → ℤ
  on_diagonal n m D = cond (eqb n m) (pos D) (pos 0)

  -- A: between Φ_n and Φ_m the g_i for i ≤ min(n,m) − 1 (trap: none for Φ_0), between Ψ_n and Ψ_m for i ≤ min(n,m), and
  -- subtracted between Φ_n and Ψ_m for i ≤ min(n − 1,m)
  abbrev pub between : Part → Part → ℤ
  between (Φ n) (Φ m) = on_diagonal n m (own_of (Φ n)) +ℤ shared_by (min n m)
  between (Ψ n) (Ψ m) = on_diagonal n m (own_of (Ψ n)) +ℤ shared_by (min n m + 1)
  between (Φ n) (Ψ m) = neg_ℤ (shared_by (min n (m + 1)))
  between (Ψ m) (Φ n) = neg_ℤ (shared_by (min n (m + 1)))

  -- Σ g_(J−i) y_i over the n accident years from i = J − n + 1 to J
  abbrev pub ratios_of_last : ℕ → ℤ
  ratios_of_last n = sum n (λ k. pos (c.g (c.last - (c.last - n + 1 + k))) *ℤ c.y (c.last - n + 1 + k))

  -- The right-hand side: Φ_j has the ratios of i ≥ J−j+1, j of them; Ψ_j those of i ≥ J−j, j + 1 of them. (Trap: not of i ≥ J−1,
  -- as the theorem is printed in some copies of the paper.)
  abbrev pub target_of : Part → ℤ
  target_of (Φ j) = pos (c.s j) *ℤ c.prior_Φ j +ℤ sum (c.last - j + 1) (λ i. pos (c.p i j) *ℤ c.x i j) +ℤ ratios_of_last j
  target_of (Ψ j) = pos (c.t j) *ℤ c.prior_Ψ j +ℤ sum (c.last - j) (λ i. pos (c.q i j) *ℤ c.z i j) -ℤ ratios_of_last (j + 1)

  -- the same by a part's index
  unfoldable pub own : ℕ → ℕ
  own k = own_of (part_by_index c.last k)

  unfoldable pub matrix : ℕ → ℕ → ℤ
  matrix k l = between (part_by_index c.last k) (part_by_index c.last l)

  unfoldable pub right_hand_side : ℕ → ℤ
  right_hand_side k = target_of (part_by_index c.last k)

  -- the residue of u/m, times m: A·u − m·(right-hand side)
  unfoldable pub residue_times : ℕ → Vector → ℕ → ℤ
  residue_times m u k = sum (parts c.last) (λ l. matrix k l *ℤ u l) -ℤ pos m *ℤ right_hand_side k

-- ---- the figures that the calls use: J, e, and as lists D, the rows of A, the right-hand side

pub record Figures : Type 0 where
  pub last : ℕ
  pub closeness : ℕ
  pub own : List ℕ
  pub matrix : List (List ℤ)
  pub right_hand_side : List ℤ

-- of observations, with a closeness
unfoldable pub figures_from : Chain → ℕ → Figures
figures_from c e = record {
  last = c.last;
  closeness = e;
  own = tab_from 0 (parts c.last) (own c);
  matrix = tab_from 0 (parts c.last) (λ k. tab_from 0 (parts c.last) (matrix c k));
  right_hand_side = tab_from 0 (parts c.last) (right_hand_side c);
}

-- of a file
abbrev pub figures_of : Bytes → Figures
figures_of f = figures_from (chain_of f) (closeness f)

pub data Judgement : Type 0 where
  passed : Judgement
  fails : ℕ → Judgement

module _ (F : Figures) where
  abbrev pub entry : ℕ → ℕ → ℤ
  entry k l = part (get_or F.matrix k []) l

  -- the residue of a whole mean: A·mean − right-hand side
  unfoldable pub residue : Vector → ℕ → ℤ
  residue u k = sum (parts F.last) (λ l. entry k l *ℤ u l) -ℤ part F.right_hand_side k

  -- |residue| ≤ e·D
  abbrev pub part_passes : Vector → ℕ → Bool
  part_passes u k = leb (nat_abs (residue u k)) (F.closeness * get_or F.own k 0)

  -- parts k, k + 1, …, n of them: the first that fails
  unfoldable pub judge_from : Vector → ℕ → ℕ → Judgement
  judge_from u k zero = passed
  judge_from u k (suc n) = cond (part_passes u k) (judge_from u (suc k) n) (fails k)

  abbrev pub judgement : Vector → Judgement
  judgement u = judge_from u 0 (parts F.last)

abbrev pub is_passed : Judgement → Bool
is_passed passed = true
is_passed (fails k) = false

abbrev pub passes : Figures → Vector → Bool
passes F u = is_passed (judgement F u)
