-- Specification, "The calls": one step of one part, one sweep, the sweeps of a call.
use Rattle.std.specs.Prelude.{ℕ, zero, suc, ◌*◌, cond, ◌||◌, List, ℤ, pos, nat_abs, neg_ℤ, ◌+ℤ◌, ◌-ℤ◌, ◌*ℤ◌, set, leb}
use Rattle.std.specs.Int.Signed.{lt_z, shr_z}
use Rattle.definitions.specs.Words.{part}
use Rattle.definitions.specs.Layout.{parts}
use Rattle.definitions.specs.Refusals.{part_limit}
use Rattle.definitions.specs.Matrix.{Figures, entry, residue, passes}

-- the nearest of −2^26 and 2^26 where a part is outside them
unfoldable pub bring_back : ℤ → ℤ
bring_back z = cond (lt_z (pos part_limit) z) (pos part_limit) (cond (lt_z z (neg_ℤ (pos part_limit))) (neg_ℤ (pos part_limit)) z)

-- a call runs no sweep past this total
abbrev pub sweep_limit : ℕ
sweep_limit = 4096

-- the mean that a session holds, and the sweeps run since open or the last strike
pub record Swept : Type 0 where
  pub mean : List ℤ
  pub swept : ℕ

module _ (F : Figures) where
  -- floor((A_kk − 2·residue) / (2·A_kk)): `shr_z` rounds down (trap: −1/2 goes to 0)
  unfoldable pub change : List ℤ → ℕ → ℤ
  change μ k = shr_z (entry F k k -ℤ pos 2 *ℤ residue F (part μ) k) (2 * nat_abs (entry F k k))

  unfoldable pub step : ℕ → List ℤ → List ℤ
  step k μ = set μ k (bring_back (part μ k +ℤ change μ k))

  -- parts k, k + 1, …, n of them, in order; the residues follow, being those of the mean so far
  unfoldable pub sweep_from : ℕ → ℕ → List ℤ → List ℤ
  sweep_from k zero μ = μ
  sweep_from k (suc n) μ = sweep_from (suc k) n (step k μ)

  abbrev pub one_sweep : List ℤ → List ℤ
  one_sweep μ = sweep_from 0 (parts F.last) μ

  -- up to n sweeps, none once the mean passes or the total is 4,096
  unfoldable pub sweeps : ℕ → List ℤ → ℕ → Swept
  sweeps zero μ total = record { mean = μ; swept = total }
  sweeps (suc n) μ total =
      let further = sweeps n (one_sweep μ) (suc total) in
      cond (passes F (part μ) || leb sweep_limit total) (record { mean = μ; swept = total }) further
