-- The sizes that code in 64 bits needs, over limits that are left open: own weights at most W, the g at most G, what a part's own
-- observations and prior come to at most B in size, the last ratios at most X, a mean's parts at most M.
use Prim.Native.Nat.{ℕ, zero, suc, ◌+◌, ◌*◌, ◌-◌, ◌≤◌, ◌<◌, min}
use Rattle.std.specs.Prelude.{◌≡◌, refl, eqb, ℤ, pos, negsuc, ◌*ℤ◌}
use Rattle.std.proofs.Common.{sym, ap₂, ◌∙◌, le_refl, le_of_eq, arith}
use Rattle.std.proofs.Math.Path.{ap}
use Rattle.std.proofs.Math.Nat.{le_trans, mul-le-mul_right}
use Rattle.std.proofs.Math.IntN.{nat_abs}
use Rattle.integers.specs.Ring.{*ℤ_idl}
use Rattle.integers.specs.Size.{nat_abs-+, nat_abs-*, nat_abs-*-≤, nat_abs--}
use Rattle.integers.specs.Sum.{sum, total}
use Rattle.integers.specs.SumRange.{only, only_same, only_apart, sum_one}
use Rattle.integers.specs.Total.{total_cong, total_mono, total_bound, total-+, total_scale_right, total_next, total_split, pos_total, sizes, sum_size}
use Rattle.definitions.specs.Layout.{parts}
use Rattle.definitions.specs.Loss.{Vector}
use Rattle.definitions.specs.Observations.{Chain}
use Rattle.definitions.specs.Matrix.{Part, Φ, Ψ, part_by_index, own, matrix, ratios_of_last, right_hand_side, residue_times}
use Rattle.laws.specs.Ranks.{rank_of, sign_of}
use Rattle.laws.proofs.Ranks.{part_by_index_phi, part_by_index_psi, rank_entry, rank_below, matrix_by_ranks}
use Rattle.laws.proofs.PrecisionMatrix.{ratios_by_development, target_by_rank}
use Rattle.laws.specs.PrecisionMatrix.{firsts_of}

-- ---- ranks: their sum is J·(J + 1)

first_numbers : (n : ℕ) → 2 * total n (λ j. j) + n ≡ n * n
unfolding total
first_numbers zero = refl
first_numbers (suc n) = omega (arith, first_numbers n)

first_successors : (n : ℕ) → total n (λ j. j + 1) ≡ total n (λ j. j) + n
unfolding total
first_successors zero = refl
first_successors (suc n) = rw (first_successors n) (omega arith)

ranks_total : (J : ℕ) → total (parts J) (λ l. rank_of (part_by_index J l)) ≡ J * (J + 1)
ranks_total J =
    ap (λ n. total n (λ l. rank_of (part_by_index J l))) (count J)
    ∙ total_split (J + 1) J (λ l. rank_of (part_by_index J l))
    ∙ ap₂ ◌+◌
    (total_cong (J + 1) (λ j h. ap rank_of (part_by_index_phi J j (omega arith))) ∙ total_next J (λ j. j))
    (total_cong J (λ j _. ap rank_of (part_by_index_psi J j)) ∙ first_successors J)
    ∙ omega (arith, first_numbers J)
  where
    count : (J : ℕ) → 2 * J + 1 ≡ J + 1 + J
    count J = omega arith

module _ (c : Chain) where
  abbrev J : ℕ
  J = c.last

  abbrev n : ℕ
  n = parts J

  abbrev kind : ℕ → Part
  kind = part_by_index J

  abbrev pub rank : ℕ → ℕ
  rank k = rank_of (kind k)

  -- the own weight of part k, where k and l are one
  abbrev on_diagonal : ℕ → ℕ → ℤ
  on_diagonal k l = only (eqb k l) (pos (own c k))

  -- ---- rows of the matrix

  sign_size : (a b : Part) (n : ℕ) → nat_abs (sign_of a *ℤ sign_of b *ℤ pos n) ≡ n
  sign_size (Φ i) (Φ j) n = omega arith
  sign_size (Ψ i) (Ψ j) n = omega arith
  sign_size (Φ i) (Ψ j) n = nat_abs-* (negsuc 0) (pos n) ∙ omega arith
  sign_size (Ψ i) (Φ j) n = nat_abs-* (negsuc 0) (pos n) ∙ omega arith

  -- an entry, where the g of part k's rank are at most b
  entry_size : (k l b : ℕ) → k < n → l < n → ((d : ℕ) → d < rank k → c.g d ≤ b)
      → nat_abs (matrix c k l) ≤ nat_abs (on_diagonal k l) + rank l * b
  entry_size k l b k-below l-below few =
      let m : ℕ = min (rank k) (rank l) in
      let shared : nat_abs (rank_entry c (kind k) (kind l)) ≡ total m c.g =
      ap (λ z. nat_abs (sign_of (kind k) *ℤ sign_of (kind l) *ℤ z)) (sym (pos_total m c.g))
      ∙ sign_size (kind k) (kind l) (total m c.g) in
      let bounded : total m c.g ≤ m * b = total_bound m b (λ d h. few d (omega arith)) in
      rw (matrix_by_ranks c k l k-below l-below)
      (le_trans (nat_abs-+ (on_diagonal k l) (rank_entry c (kind k) (kind l)))
      (omega (arith, mul-le-mul_right b (smaller (rank k) (rank l)))))
    where
      smaller : (a b : ℕ) → min a b ≤ b
      smaller a b = omega arith

  diagonal_total : (k : ℕ) → k < n → total n (λ l. nat_abs (on_diagonal k l)) ≡ own c k
  diagonal_total k below = ap nat_abs (
      pos_total n (λ l. nat_abs (on_diagonal k l))
      ∙ sum_one n k below (λ l _ away. ap (λ z. pos (nat_abs z)) (only_apart k l (pos (own c k)) (λ same. away (sym same))))
      ∙ ap (λ z. pos (nat_abs z)) (only_same k (pos (own c k))))

  -- the sizes of a row come to at most D + J·(J + 1)·b
  pub row_size : (k b : ℕ) → k < n → ((d : ℕ) → d < rank k → c.g d ≤ b) → sizes n (matrix c k) ≤ own c k + J * (J + 1) * b
  row_size k b below few =
      le_trans (total_mono n (λ l l-below. entry_size k l b below l-below few))
      (le_of_eq (
      total-+ n (λ l. nat_abs (on_diagonal k l)) (λ l. rank l * b)
      ∙ ap₂ ◌+◌ (diagonal_total k below) (total_scale_right n b rank ∙ ap (λ n. n * b) (ranks_total J))))

  -- ---- right-hand side and residues

  pub record Limits (W G B X : ℕ) : Type 0 where
    pub own_to : (k : ℕ) → k < n → own c k ≤ W
    pub shares_to : (d : ℕ) → d < J → c.g d ≤ G
    pub firsts_to : (k : ℕ) → k < n → nat_abs (firsts_of c (kind k)) ≤ B
    pub ratios_to : (d : ℕ) → d < J → nat_abs (c.y (J - d)) ≤ X

  module _ {W G B X : ℕ} (h : Limits W G B X) where
    shares_of : (k : ℕ) → k < n → (d : ℕ) → d < rank k → c.g d ≤ G
    shares_of k below d d-below = h.shares_to d (omega (arith, rank_below J k below))

    pub row_limit_lem : (k : ℕ) → k < n → sizes n (matrix c k) ≤ W + J * (J + 1) * G
    row_limit_lem k below = omega (arith, row_size k G below (shares_of k below), h.own_to k below)

    -- the g that two parts share, and on the diagonal the own weight besides
    pub entry_limit_lem : (k l : ℕ) → k < n → l < n → nat_abs (matrix c k l) ≤ nat_abs (on_diagonal k l) + J * G
    entry_limit_lem k l k-below l-below =
        omega (arith, entry_size k l G k-below l-below (shares_of k k-below), mul-le-mul_right G (rank_below J l l-below))

    -- the last ratios of m development years, each times its g
    pub ratios_limit : (m : ℕ) → m ≤ J → nat_abs (ratios_of_last c m) ≤ m * (G * X)
    ratios_limit m few = rw (ratios_by_development c m few) (le_trans (sum_size m term) (total_bound m (G * X) term_to))
      where
        term : ℕ → ℤ
        term d = pos (c.g d) *ℤ c.y (J - d)

        term_to : (d : ℕ) → d < m → nat_abs (term d) ≤ G * X
        term_to d past = nat_abs-*-≤ (pos (c.g d)) (c.y (J - d)) (h.shares_to d (omega arith)) (h.ratios_to d (omega arith))

    pub target_limit : (k : ℕ) → k < n → nat_abs (right_hand_side c k) ≤ B + J * (G * X)
    unfolding right_hand_side
    target_limit k below =
        let signed = one_sign (kind k) (ratios_of_last c r) in
        let firsts = h.firsts_to k below in
        rw (target_by_rank c (kind k))
        (le_trans (nat_abs-+ (firsts_of c (kind k)) (sign_of (kind k) *ℤ ratios_of_last c r))
        (omega (arith, ratios_limit r in_years, mul-le-mul_right (G * X) in_years)))
      where
        r : ℕ
        r = rank k

        in_years : r ≤ J
        in_years = rank_below J k below

        one_sign : (a : Part) (z : ℤ) → nat_abs (sign_of a *ℤ z) ≡ nat_abs z
        one_sign (Φ j) z = nat_abs-* (pos 1) z ∙ omega arith
        one_sign (Ψ j) z = nat_abs-* (negsuc 0) z ∙ omega arith

    -- of a whole mean whose parts are at most M in size
    pub residue_limit_lem : (M : ℕ) (μ : Vector) → ((l : ℕ) → l < n → nat_abs (μ l) ≤ M) → (k : ℕ) → k < n
        → nat_abs (residue_times c 1 μ k) ≤ (W + J * (J + 1) * G) * M + (B + J * (G * X))
    unfolding residue_times
    residue_limit_lem M μ small k below =
        let products : sizes n (λ l. matrix c k l *ℤ μ l) ≤ sizes n (matrix c k) * M =
        le_trans (total_mono n (λ l l-below. nat_abs-*-≤ (matrix c k l) (μ l) (le_refl (nat_abs (matrix c k l))) (small l l-below)))
        (le_of_eq (total_scale_right n M (λ l. nat_abs (matrix c k l)))) in
        let sums = sum_size n (λ l. matrix c k l *ℤ μ l) in
        let once = ap nat_abs (*ℤ_idl (right_hand_side c k)) in
        le_trans (nat_abs-- (sum n (λ l. matrix c k l *ℤ μ l)) (pos 1 *ℤ right_hand_side c k))
        (omega (arith, mul-le-mul_right M (row_limit_lem k below), target_limit k below))
