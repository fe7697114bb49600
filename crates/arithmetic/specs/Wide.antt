-- Numbers of two words: what they stand for, and the contracts of their product, sum and quotient, over ℤ.
use Rattle.std.specs.Prelude.{ℕ, ◌+◌, ◌*◌, ◌^◌, ◌≤◌, ◌<◌, ◌≡◌, ℤ, pos, nat_abs, ◌+ℤ◌, ◌*ℤ◌}
use Rattle.arithmetic.specs.declared.wide.Wide.{Wide}
use Rattle.arithmetic.specs.declared.wide.Digit.{Digit}
use Rattle.arithmetic.specs.declared.wide.Quotient.{Quotient}

abbrev pub value_of : Wide → ℤ
value_of w = w.high *ℤ pos (2 ^ 32) +ℤ pos w.low

pub record IsWide (z : ℤ) (w : Wide) : Type 0 where
  pub value : value_of w ≡ z
  pub low_small : w.low < 2 ^ 32

-- floor and rest of a number, also of one below zero
pub record Divides (n : ℤ) (d : ℕ) (r : Quotient) : Type 0 where
  pub whole : r.floor *ℤ pos d +ℤ pos r.rest ≡ n
  pub below : r.rest < d

pub record OfWord (x : ℤ) (d : ℕ) : Type 0 where
  pub some : 1 ≤ d
  pub divisor_small : d ≤ 2 ^ 48
  pub small : nat_abs x ≤ 2 ^ 62

pub record OfProduct (b : ℤ) : Type 0 where
  pub small : nat_abs b ≤ 2 ^ 30

pub record OfSum (x y : Wide) : Type 0 where
  pub x_low : x.low < 2 ^ 32
  pub y_low : y.low < 2 ^ 32
  pub high_small : nat_abs x.high + nat_abs y.high < 2 ^ 62

-- ---- long division

pub record OfDigit (rest bits d : ℕ) : Type 0 where
  pub divisor_small : d ≤ 2 ^ 48
  pub below : rest < d
  pub few : bits < 2 ^ 16

pub record NextDigit (rest bits d : ℕ) (r : Digit) : Type 0 where
  pub whole : r.digit * d + r.rest ≡ rest * 2 ^ 16 + bits
  pub below : r.rest < d
  pub small : r.digit < 2 ^ 16

-- a number of two words whose floor one word holds
pub record OfDivision (n : Wide) (d : ℕ) : Type 0 where
  pub of_word : OfWord n.high d
  pub low_small : n.low < 2 ^ 32
  pub floor_small : nat_abs n.high ≤ 2 ^ 29 * d
