-- The central ultimate once more, in document 02's letters and with nothing named: of every accepted file, every accident year i of 1..J
-- and every mean, floor·(N + M) + remainder is M times (log P_(i,k) + ΣΦ_m for m > k) plus N times (log I_(i,k) + ΣΨ_n for n ≥ k), and
-- the remainder is from 0 to N + M − 1; and no other floor and remainder are so.
use Rattle.std.specs.Prelude.{ℕ, ◌+◌, ◌-◌, ◌≤◌, ◌<◌, ◌≡◌, refl, true, ℤ, pos, ◌+ℤ◌, ◌*ℤ◌}
use Rattle.std.proofs.Math.Path.{ap}
use Rattle.integers.specs.Summation.{sum, total}
use Rattle.definitions.specs.Layout.{Bytes, last_year, paid, incurred, variance_of}
use Rattle.definitions.specs.Logarithm.{logarithm}
use Rattle.definitions.specs.Refusals.{accepted}
use Rattle.definitions.specs.Observations.{ratio_variance}
use Rattle.definitions.specs.Ultimate.{latest_of, Ultimate, paid_variance, incurred_variance, paid_ultimate, incurred_ultimate, ultimate_of}
use Rattle.laws.proofs.Accepted.{accepted_file}
use Rattle.laws.proofs.Ultimates.{ultimate_unique, divisor_is, file_divided}

module _ (f : Bytes) (i : ℕ) (u : ℕ → ℤ) where
  abbrev J : ℕ
  J = last_year f

  abbrev k : ℕ
  k = J - i

  abbrev pub N : ℕ
  N = total i (λ m. variance_of f (k + 1 + m))

  abbrev pub M : ℕ
  M = total i (λ n. variance_of f (J + 1 + (k + n)))

  -- i parts of each kind are still to come, from Φ_(k+1) and from Ψ_k on
  abbrev pub figure : ℤ
  figure =
      pos M *ℤ (pos (logarithm (paid f i k)) +ℤ sum i (λ m. u (k + 1 + m)))
      +ℤ pos N *ℤ (pos (logarithm (incurred f i k)) +ℤ sum i (λ n. u (J + 1 + (k + n))))

  module _ (taken : accepted f ≡ true) (from : 1 ≤ i) (to : i ≤ J) where
    pub exact : let r : Ultimate = ultimate_of J (latest_of f) i u in
        (r.floor *ℤ pos (N + M) +ℤ pos r.remainder ≡ figure) × (r.remainder < N + M) × (r.divisor ≡ N + M)
    unfolding paid_variance incurred_variance paid_ultimate incurred_ultimate ultimate_of
    exact = let h = file_divided f (accepted_file f taken) from to u in (h.whole, h.below, refl)

    -- the variance whose weight is g_k
    pub weighed : N + M ≡ ratio_variance f k
    unfolding paid_variance incurred_variance
    weighed = divisor_is f (accepted_file f taken) from to

    pub only : (floor : ℤ) (remainder : ℕ) → floor *ℤ pos (N + M) +ℤ pos remainder ≡ figure → remainder < N + M
        → let r : Ultimate = ultimate_of J (latest_of f) i u in (floor ≡ r.floor) × (remainder ≡ r.remainder)
    unfolding paid_variance incurred_variance paid_ultimate incurred_ultimate
    only floor remainder whole below =
        let same = ultimate_unique J (latest_of f) i u {q = floor} {r = remainder} (record { whole = whole; below = below }) in
        (ap (λ r. r.floor) same, ap (λ r. r.remainder) same)
