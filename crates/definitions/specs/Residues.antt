-- Specification, "Residues by observations": the residues of a vector straight from the triangles. Weight times difference is added up over
-- the observations that a part stands in: its prior, its own steps, and the ratios. Nothing here is made of the matrix; that these are the
-- residues that the matrix gives is a law (`laws`, `ObservedResidues`).
use Rattle.std.specs.Prelude.{ℕ, ◌+◌, ◌*◌, ◌-◌, ◌^◌, cond, List, ltb, ℤ, pos, ◌+ℤ◌, ◌-ℤ◌, ◌*ℤ◌}
use Rattle.integers.specs.Summation.{sum}
use Rattle.definitions.specs.Words.{tab_from}
use Rattle.definitions.specs.Layout.{Bytes, unsigned, parts, number_bytes}
use Rattle.definitions.specs.Observations.{Chain}
use Rattle.definitions.specs.Loss.{Vector, phi, psi, ratio}
use Rattle.definitions.specs.Matrix.{Part, Φ, Ψ, part_by_index}

-- Of the rational vector u/m each is m times as large. A struck step has the weight 0, and so has a flat prior.
module _ (c : Chain) (m : ℕ) (u : Vector) where
  -- weight times difference of the ratios of the n accident years from i = J − n + 1 to J, g by development year J−i
  abbrev pub ratios_missed : ℕ → ℤ
  ratios_missed n = sum n (λ k.
      let i : ℕ = c.last - n + 1 + k in
      pos (c.g (c.last - i)) *ℤ (ratio c u i -ℤ pos m *ℤ c.y i))

  -- Φ_j stands in the ratios of i ≥ J−j+1, j of them; Ψ_j, which they subtract, in those of i ≥ J−j, j + 1 of them
  abbrev pub residue_by : Part → ℤ
  residue_by (Φ j) =
      pos (c.s j) *ℤ (phi c u j -ℤ pos m *ℤ c.prior_Φ j)
      +ℤ sum (c.last - j + 1) (λ i. pos (c.p i j) *ℤ (phi c u j -ℤ pos m *ℤ c.x i j))
      +ℤ ratios_missed j
  residue_by (Ψ j) =
      pos (c.t j) *ℤ (psi c u j -ℤ pos m *ℤ c.prior_Ψ j)
      +ℤ sum (c.last - j) (λ i. pos (c.q i j) *ℤ (psi c u j -ℤ pos m *ℤ c.z i j))
      -ℤ ratios_missed (j + 1)

  -- by a part's index
  unfoldable pub observed_times : ℕ → ℤ
  observed_times k = residue_by (part_by_index c.last k)

-- ---- what the call `residues` writes: signed numbers of 8 bytes, Φ first

-- of a whole mean
abbrev pub observed_residues : Chain → Vector → List ℤ
observed_residues c u = tab_from 0 (parts c.last) (observed_times c 1 u)

abbrev pub residues_length : ℕ → ℕ
residues_length J = 8 * parts J

unfoldable pub residue_bytes : Chain → Vector → Bytes
residue_bytes c u = number_bytes 8 0 (parts c.last) (observed_residues c u)

-- number k of them, as whoever reads them finds it
unfoldable pub residue_at : Bytes → ℕ → ℤ
residue_at b k =
    let v : ℕ = unsigned 8 (8 * k) b in
    cond (ltb v (2 ^ 63)) (pos v) (pos v -ℤ pos (2 ^ 64))
