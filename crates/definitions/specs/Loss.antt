-- Specification, "From amounts to the loss": the loss of a vector. A vector is its parts, Φ_0..Φ_J and then Ψ_0..Ψ_(J−1).
use Rattle.std.specs.Prelude.{ℕ, ◌+◌, ◌-◌, ℤ, pos, ◌+ℤ◌, ◌-ℤ◌, ◌*ℤ◌}
use Rattle.integers.specs.Summation.{sum}
use Rattle.definitions.specs.Layout.{psi_index}
use Rattle.definitions.specs.Observations.{Chain}

abbrev pub Vector : Type 0
Vector = ℕ → ℤ

-- weight times square
abbrev pub weighted : ℕ → ℤ → ℤ
weighted w d = pos w *ℤ (d *ℤ d)

module _ (c : Chain) where
  abbrev pub phi : Vector → ℕ → ℤ
  phi u j = u j

  abbrev pub psi : Vector → ℕ → ℤ
  psi u j = u (psi_index c.last j)

  -- ΣΦ_m for m > J−i, minus ΣΨ_n for n ≥ J−i: i of each
  unfoldable pub ratio : Vector → ℕ → ℤ
  ratio u i = sum i (λ m. phi u (c.last - i + 1 + m)) -ℤ sum i (λ n. psi u (c.last - i + n))

  -- The loss of the rational vector u/m, times m². Of a whole mean it is that at m = 1.
  unfoldable pub loss_times : ℕ → Vector → ℤ
  loss_times m u =
      sum (c.last + 1) (λ j. sum (c.last - j + 1) (λ i. weighted (c.p i j) (phi u j -ℤ pos m *ℤ c.x i j)))
      +ℤ sum c.last (λ j. sum (c.last - j) (λ i. weighted (c.q i j) (psi u j -ℤ pos m *ℤ c.z i j)))
      -- g by development year J−i, for the accident years i = 1..J
      +ℤ sum c.last (λ k. weighted (c.g (c.last - (k + 1))) (ratio u (k + 1) -ℤ pos m *ℤ c.y (k + 1)))
      +ℤ sum (c.last + 1) (λ j. weighted (c.s j) (phi u j -ℤ pos m *ℤ c.prior_Φ j))
      +ℤ sum c.last (λ j. weighted (c.t j) (psi u j -ℤ pos m *ℤ c.prior_Ψ j))

abbrev pub loss : Chain → Vector → ℤ
loss c u = loss_times c 1 u
