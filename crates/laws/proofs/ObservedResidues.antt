-- Residues by observations. They are the residues that the matrix gives and that the test goes by, of every chain and every vector; they
-- depend on the triangles alone; and of a bounded chain and a mean inside the limits each fits 8 bytes, and is read back from them.
use Rattle.std.specs.Prelude.{ℕ, suc, ◌+◌, ◌*◌, ◌-◌, ◌^◌, ◌≤◌, ◌<◌, ◌≡◌, refl, cond, List, ◌++◌, ltb, ℤ, pos, negsuc, ◌+ℤ◌, ◌*ℤ◌, length, take, drop}
use Rattle.std.proofs.Common.{sym, ap, subst, ◌∙◌, zero-add, arith, lt-ltb, le-ltb}
use Rattle.std.proofs.Math.Path.{ap₂}
use Rattle.std.proofs.Math.IntN.{nat_abs, ◌-ℤ◌}
use Rattle.integers.specs.Linear.{linear}
use Rattle.integers.specs.Sum.{sum_cong}
use Rattle.definitions.specs.Words.{part}
use Rattle.definitions.specs.Layout.{Bytes, big_endian, unsigned, parts, psi_index, bytes_of, complement, number_bytes}
use Rattle.definitions.specs.Refusals.{part_limit}
use Rattle.definitions.specs.Observations.{Chain}
use Rattle.definitions.specs.Loss.{Vector, ratio}
use Rattle.definitions.specs.Matrix.{Part, Φ, Ψ, part_by_index, figures_from, residue}
use Rattle.definitions.specs.Residues.{ratios_missed, residue_by, observed_times, observed_residues, residues_length, residue_bytes, residue_at}
use Rattle.laws.specs.Chains.{Bounded}
use Rattle.laws.proofs.ChainLimits.{residue_fits}
use Rattle.laws.proofs.Judged.{residue_of_chain}
use Rattle.laws.proofs.NumberBytes.{bytes_read, number_bytes_length, number_bytes_at}
use Rattle.laws.specs.ObservedResidues.{InEightBytes}
use Rattle.laws.specs.SameChains.{SameChain}
use Rattle.laws.proofs.SameChains.{with_years, IsPart, is_part}
use Rattle.laws.proofs.Tables.{tab_at, tab_cong}
use Rattle.laws.proofs.Theorem34.{residue_is_observed}

module _ (c : Chain) (u : Vector) where
  by_matrix : (e k : ℕ) → k < parts c.last → residue (figures_from c e) u k ≡ observed_times c 1 u k
  by_matrix e k below = residue_of_chain c e u k below ∙ residue_is_observed c 1 u k below

  -- those that judge tests, whatever the closeness
  pub observed_is_residue : (e k : ℕ) → k < parts c.last → observed_times c 1 u k ≡ residue (figures_from c e) u k
  observed_is_residue e k below = sym (by_matrix e k below)

  pub observed_fits : Bounded c → ((l : ℕ) → l < parts c.last → nat_abs (u l) ≤ part_limit) → (k : ℕ) → k < parts c.last
      → nat_abs (observed_times c 1 u k) ≤ 19732 * 2 ^ 47
  observed_fits h small k below =
      subst (λ z. nat_abs z ≤ 19732 * 2 ^ 47) (residue_is_observed c 1 u k below) (residue_fits c h u small k below)

  pub residues_long : length (residue_bytes c u) ≡ residues_length c.last
  unfolding residue_bytes
  residues_long = number_bytes_length 8 (observed_residues c u) 0 (parts c.last)

-- ---- read back

eight_small : (z : ℤ) → InEightBytes z → complement 8 z < 256 ^ 8
unfolding complement
eight_small (pos n) h = omega arith
eight_small (negsuc n) h = omega arith

eight_read : (z : ℤ) → InEightBytes z
    → cond (ltb (complement 8 z) (2 ^ 63)) (pos (complement 8 z)) (pos (complement 8 z) -ℤ pos (2 ^ 64)) ≡ z
unfolding complement
eight_read (pos n) h = rw (lt-ltb n (2 ^ 63) (omega arith))
eight_read (negsuc n) h = rw (le-ltb (2 ^ 64 - suc n) (2 ^ 63) (omega arith)) (simp linear (omega arith))

-- numbers that 63 bits hold, whatever stands behind them
numbers_read : (v : List ℤ) (rest : Bytes) (n k : ℕ) → k < n → InEightBytes (part v k)
    → residue_at (number_bytes 8 0 n v ++ rest) k ≡ part v k
unfolding residue_at unsigned
numbers_read v rest n k below small =
    let bytes : take 8 (drop (8 * k) (number_bytes 8 0 n v ++ rest)) ≡ bytes_of 8 (complement 8 (part v k)) =
    number_bytes_at 8 v rest 0 n k below ∙ ap (λ i. bytes_of 8 (complement 8 (part v i))) (zero-add k) in
    let number : big_endian 0 (take 8 (drop (8 * k) (number_bytes 8 0 n v ++ rest))) ≡ complement 8 (part v k) =
    ap (big_endian 0) bytes ∙ bytes_read 8 (complement 8 (part v k)) (eight_small (part v k) small) in
    ap (λ m. cond (ltb m (2 ^ 63)) (pos m) (pos m -ℤ pos (2 ^ 64))) number ∙ eight_read (part v k) small

module _ (c : Chain) (u : Vector) (h : Bounded c) (small : (l : ℕ) → l < parts c.last → nat_abs (u l) ≤ part_limit) where
  -- what is written of a mean is what judge tests, number by number
  pub residues_read : (rest : Bytes) (e k : ℕ) → k < parts c.last
      → residue_at (residue_bytes c u ++ rest) k ≡ residue (figures_from c e) u k
  unfolding residue_bytes
  residues_read rest e k below =
      let is : part (observed_residues c u) k ≡ observed_times c 1 u k = tab_at (parts c.last) (observed_times c 1 u) k (pos 0) below in
      let fits : InEightBytes (part (observed_residues c u) k) = rw is (omega (arith, observed_fits c u h small k below)) in
      numbers_read (observed_residues c u) rest (parts c.last) k below fits ∙ is ∙ sym (by_matrix c u e k below)

-- ---- only the triangles and the parts count

module _ (c d : Chain) (h : SameChain c d) (m : ℕ) (u v : Vector) (agree : (k : ℕ) → k < parts c.last → u k ≡ v k) where
  abbrev J : ℕ
  J = c.last

  abbrev e : Chain
  e = with_years J d

  ratio_same : (i : ℕ) → i ≤ J → ratio c u i ≡ ratio e v i
  unfolding ratio
  ratio_same i few =
      ap₂ ◌-ℤ◌
      (sum_cong i (λ n below. agree (J - i + 1 + n) (omega arith)))
      (sum_cong i (λ n below. agree (psi_index J (J - i + n)) (omega arith)))

  ratios_same : (n : ℕ) → n ≤ J → ratios_missed c m u n ≡ ratios_missed e m v n
  ratios_same n few =
      sum_cong n (λ k below. let i : ℕ = J - n + 1 + k in
      ap₂ (λ w z. pos w *ℤ z) (h.g (J - i) (omega arith))
      (ap₂ (λ r y. r -ℤ pos m *ℤ y) (ratio_same i (omega arith)) (h.y i (omega arith))))

  residue_same : (a : Part) → IsPart J a → residue_by c m u a ≡ residue_by e m v a
  residue_same (Φ j) few =
      let Part-same = agree j (omega arith) in
      ap₂ ◌+ℤ◌
      (ap₂ ◌+ℤ◌
      (ap₂ (λ w z. pos w *ℤ z) (h.s j few) (ap₂ (λ z p. z -ℤ pos m *ℤ p) Part-same (h.prior_Φ j few)))
      (sum_cong (J - j + 1) (λ i below.
      ap₂ (λ w z. pos w *ℤ z) (h.p i j (omega arith)) (ap₂ (λ z x. z -ℤ pos m *ℤ x) Part-same (h.x i j (omega arith))))))
      (ratios_same j few)
  residue_same (Ψ j) below =
      let Part-same = agree (psi_index J j) (omega arith) in
      ap₂ ◌-ℤ◌
      (ap₂ ◌+ℤ◌
      (ap₂ (λ w z. pos w *ℤ z) (h.t j below) (ap₂ (λ z p. z -ℤ pos m *ℤ p) Part-same (h.prior_Ψ j below)))
      (sum_cong (J - j) (λ i there.
      ap₂ (λ w z. pos w *ℤ z) (h.q i j (omega arith)) (ap₂ (λ z x. z -ℤ pos m *ℤ x) Part-same (h.z i j (omega arith))))))
      (ratios_same (j + 1) (omega arith))

  pub observed_same : (k : ℕ) → k < parts c.last → observed_times c m u k ≡ observed_times (with_years c.last d) m v k
  unfolding observed_times
  observed_same k below = residue_same (part_by_index J k) (is_part J k below)

-- of two chains with the same triangles the same bytes are written
pub same_residues : (c d : Chain) → SameChain c d → (u : Vector) → residue_bytes c u ≡ residue_bytes (with_years c.last d) u
unfolding residue_bytes
same_residues c d h u =
    ap (number_bytes 8 0 (parts c.last))
    (tab_cong 0 (parts c.last) (λ k _ to. observed_same c d h 1 u u (λ l _. refl) k (omega arith)))
