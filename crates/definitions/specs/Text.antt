-- Numbers and parts as text, in bytes: what the specification's page and listing are written in.
use Rattle.std.specs.Prelude.{ℕ, zero, suc, ◌+◌, ◌*◌, ◌-◌, ◌/◌, ◌%◌, Bool, false, cond, ◌&&◌, [], ◌∷◌, ◌++◌, ltb, eqb, ℤ, pos, negsuc, neg_ℤ, length, replicate}
use Prim.Native.Char.{code}
use Prim.Native.String.{String, len, char_at}
use Rattle.std.proofs.Math.Option.{Option, none, some}
use Rattle.definitions.specs.Words.{within, tab_from}
use Rattle.definitions.specs.Layout.{Bytes}
use Rattle.definitions.specs.Matrix.{Part, Φ, Ψ}

-- the bytes of a quoted text, which is ASCII
unfoldable pub ascii : String → Bytes
ascii text = tab_from 0 (len text) (λ k. code (char_at text k))

abbrev pub space : ℕ
space = 32

abbrev pub line_feed : ℕ
line_feed = 10

abbrev pub minus : ℕ
minus = 45

-- ---- a number as it is written

-- `0` to `9`
abbrev pub digit : ℕ → ℕ
digit d = 48 + d

-- n in base ten: the digits of n / 10 and the last one; so many more than one
unfoldable pub decimal_from : ℕ → ℕ → Bytes
decimal_from zero n = digit n ∷ []
decimal_from (suc more) n = cond (ltb n 10) (digit n ∷ []) (decimal_from more (n / 10) ++ digit (n % 10) ∷ [])

-- below 2^64 there are at most 20 digits: one, and so many more
abbrev pub more_digits : ℕ
more_digits = 19

abbrev pub decimal : ℕ → Bytes
decimal n = decimal_from more_digits n

unfoldable pub signed_decimal : ℤ → Bytes
signed_decimal (pos n) = decimal n
signed_decimal (negsuc n) = minus ∷ decimal (suc n)

-- right-aligned in so many columns: spaces, then the whole text
unfoldable pub aligned : ℕ → Bytes → Bytes
aligned columns text = replicate (columns - length text) space ++ text

-- ---- a number as a reader of its columns takes it

-- the number that digits spell behind those of a
unfoldable pub spelt : ℕ → Bytes → ℕ
spelt a [] = a
spelt a (x ∷ xs) = spelt (a * 10 + (x - digit 0)) xs

-- one digit or more, and nothing else
unfoldable pub are_digits : Bytes → Bool
are_digits [] = false
are_digits (x ∷ []) = within (digit 0) (digit 9) x
are_digits (x ∷ y ∷ ys) = within (digit 0) (digit 9) x && are_digits (y ∷ ys)

unfoldable pub read_digits : (ℕ → ℤ) → Bytes → Option ℤ
read_digits sign t = cond (are_digits t) (some (sign (spelt 0 t))) none

-- spaces, `-` where it is below zero, and digits up to the end; anything else is no number
unfoldable pub read_number : Bytes → Option ℤ
read_number [] = none
read_number (x ∷ xs) =
    cond (eqb x space) (read_number xs) (cond (eqb x minus) (read_digits (λ n. neg_ℤ (pos n)) xs) (read_digits pos (x ∷ xs)))

-- ---- parts and lines

unfoldable pub name_of : Part → Bytes
name_of (Φ j) = ascii "phi"
name_of (Ψ j) = ascii "psi"

unfoldable pub index_of : Part → ℕ
index_of (Φ j) = j
index_of (Ψ j) = j

-- the lines of the parts 0, 1, …, n of them
unfoldable pub lines : (ℕ → Bytes) → ℕ → Bytes
lines line zero = []
lines line (suc n) = lines line n ++ line n
