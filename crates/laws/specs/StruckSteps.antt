-- How many steps of a column are left: where there is one it can be named, one more struck leaves one less, and so a strike that 27 lets
-- pass leaves a step in each column.
use Prim.Native.Nat.{ℕ, ◌+◌, ◌<◌}
use Rattle.std.specs.Prelude.{◌≡◌, true, false, ◌||◌, eqb}
use Rattle.std.proofs.Math.Bool.{Bool, cond}
use Rattle.integers.specs.Sum.{total}
use Rattle.definitions.specs.Strikes.{Step, is_step, left_beside}

-- of n marks
abbrev pub left_of : ℕ → (ℕ → Bool) → ℕ
left_of n m = total n (λ i. cond (m i) 0 1)

-- with one more marked
abbrev pub OneLess : (n a : ℕ) → (ℕ → Bool) → Type 0
OneLess n a m = a < n → m a ≡ false → left_of n m ≡ left_of n (λ i. m i || eqb a i) + 1

-- what it asks, where it is clear
pub record Strikable (J : ℕ) (struck : Step → Bool) (s : Step) : Type 0 where
  pub there : is_step J s ≡ true
  pub unstruck : struck s ≡ false
  pub another : eqb (left_beside J struck s) 1 ≡ false
