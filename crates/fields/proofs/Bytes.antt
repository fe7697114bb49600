-- Big-endian fields, byte by byte: what one byte more adds, and how large a field is.
use mathlib.Core.Path.{◌≡◌, refl, ◌∙◌}
use mathlib.Core.List.{[], ◌∷◌, ◌++◌}
use Prim.Native.Nat.{ℕ, zero, suc, ◌+◌, ◌*◌, ◌^◌, ◌≤◌, ◌<◌}
use native.Mathlib.Nat.{add-zero, zero-add, lt_of_lt_of_le, pow-suc, pow-le-pow_right}
use native.Mathlib.Numerals.{add-one}
use native.Mathlib.Omega.{arith}
use lib.ListN.{length, get_or, drop, length-drop, drop_of_length-le}
use lib.Seq.{take-suc, take-nil, get_or-drop}
use Rattle.definitions.specs.Layout.{Bytes, big_endian, unsigned}

big_endian_snoc : (a : ℕ) (xs : Bytes) (x : ℕ) → big_endian a (xs ++ x ∷ []) ≡ big_endian a xs * 256 + x
unfolding big_endian
big_endian_snoc a [] x = refl
big_endian_snoc a (y ∷ ys) x = big_endian_snoc (a * 256 + y) ys x

pub unsigned_none : (at : ℕ) (s : Bytes) → unsigned 0 at s ≡ 0
unfolding unsigned big_endian
unsigned_none at s = refl

pub unsigned_next : (n at : ℕ) (s : Bytes) → at + n < length s → unsigned (n + 1) at s ≡ unsigned n at s * 256 + get_or s (at + n) 0
unfolding unsigned
unsigned_next n at s h =
    let within : n < length (drop at s) = simp length-drop (omega arith) in
    rw (add-one n, take-suc (drop at s) n 0 within, big_endian_snoc, get_or-drop at s n 0)

-- of a string's first bytes
pub unsigned_front : (n : ℕ) (s : Bytes) → n < length s → unsigned (n + 1) 0 s ≡ unsigned n 0 s * 256 + get_or s n 0
unsigned_front n s h = rw (zero-add n) at (unsigned_next n 0 s (rw (zero-add n) h))

pub unsigned_one : (at : ℕ) (s : Bytes) → at < length s → unsigned 1 at s ≡ get_or s at 0
unsigned_one at s h =
    unsigned_next 0 at s (omega arith) ∙ rw (unsigned_none at s, add-zero at) (zero-add (get_or s at 0))

pub unsigned_past : (n at : ℕ) (s : Bytes) → length s ≤ at → unsigned n at s ≡ 0
unfolding unsigned big_endian
unsigned_past n at s h = rw (drop_of_length-le s h, take-nil n)

module _ (s : Bytes) (bytes : (k : ℕ) → get_or s k 0 < 256) (at : ℕ) where
  pub unsigned_below : (n : ℕ) → at + n ≤ length s → unsigned n at s < 256 ^ n
  unsigned_below zero h = rw (unsigned_none at s) (omega arith)
  unsigned_below (suc n) h =
      rw (← add-one n, unsigned_next n at s (omega arith), add-one n, pow-suc 256 n) (omega (arith, bytes (at + n), unsigned_below n (omega arith)))

  pub unsigned_fits : (n : ℕ) → n ≤ 8 → at + n ≤ length s → unsigned n at s < 2 ^ 64
  unsigned_fits n h k = lt_of_lt_of_le (unsigned_below n k) (pow-le-pow_right {n = 256} (omega arith) h)
