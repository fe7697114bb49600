-- Numbers as text: how many bytes they have, that they are read back whole, and that none of their bytes ends a line.
use Rattle.std.specs.Prelude.{ℕ, zero, suc, ◌+◌, ◌*◌, ◌-◌, ◌/◌, ◌%◌, ◌^◌, ◌≤◌, ◌<◌, ◌≡◌, refl, Bool, true, false, ◌&&◌, [], ◌∷◌, ◌++◌, ℤ, pos, negsuc, nat_abs}
use Rattle.std.specs.Prelude.{length, replicate}
use Rattle.std.proofs.Common.{sym, ap, subst, ◌∙◌, pow-suc, arith, lt-ltb, le-ltb, le-leb, ne_eqb, length-append}
use Rattle.std.proofs.lemmas.Bool.{false≢true}
use Rattle.std.proofs.Math.Option.{some}
use Rattle.std.proofs.Math.Decide.{dec_lt}
use Rattle.std.proofs.lemmas.List.{length-replicate}
use Rattle.definitions.specs.Layout.{Bytes}
use Rattle.definitions.specs.Words.{within}
use Rattle.definitions.specs.Text.{space, minus, digit, decimal_from, more_digits, decimal, signed_decimal, aligned}
use Rattle.definitions.specs.Text.{spelt, are_digits, read_digits, read_number}
use Rattle.laws.specs.Decimal.{Digits, From, either}

spelt_append : (a : ℕ) (xs ys : Bytes) → spelt a (xs ++ ys) ≡ spelt (spelt a xs) ys
unfolding spelt
spelt_append a [] ys = refl
spelt_append a (x ∷ xs) ys = spelt_append (a * 10 + (x - digit 0)) xs ys

-- ---- the digits of a number

pub decimal_last : (more n : ℕ) → n < 10 → decimal_from more n ≡ digit n ∷ []
unfolding decimal_from
decimal_last zero n small = refl
decimal_last (suc more) n small = ap (either more n) (lt-ltb n 10 small)

pub decimal_more : (more n : ℕ) → 10 ≤ n → decimal_from (suc more) n ≡ decimal_from more (n / 10) ++ digit (n % 10) ∷ []
unfolding decimal_from
decimal_more more n large = ap (either more n) (le-ltb n 10 large)

-- a fact of a number's digits: of one digit, where no more are needed or none is left; and of one digit more
by_digits : (P : ℕ → ℕ → Bytes → Type 0)
    → ((more n : ℕ) → (n < 10 ^ suc more → n < 10) → P more n (digit n ∷ []))
    → ((more n : ℕ) → 10 ≤ n → P more (n / 10) (decimal_from more (n / 10))
    → P (suc more) n (decimal_from more (n / 10) ++ digit (n % 10) ∷ []))
    → (more n : ℕ) → P more n (decimal_from more n)
unfolding decimal_from
by_digits P one next zero n = one zero n (λ h. omega (arith, h))
by_digits P one next (suc more) n = by_size (dec_lt n 10) (by_digits P one next more (n / 10))
  where
    by_size : Dec (n < 10) → P more (n / 10) (decimal_from more (n / 10)) → P (suc more) n (decimal_from (suc more) n)
    by_size (yes small) shorter = subst (P (suc more) n) (sym (decimal_last (suc more) n small)) (one (suc more) n (λ h. small))
    by_size (no large) shorter =
        let ten : 10 ≤ n = omega arith in
        subst (P (suc more) n) (sym (decimal_more more n ten)) (next more n ten shorter)

-- as many as it needs
pub decimal_length : (w more n : ℕ) → n < 10 ^ suc w → length (decimal_from more n) ≤ suc w
decimal_length w more n =
    by_digits (λ more n t. (w : ℕ) → n < 10 ^ suc w → length t ≤ suc w) (λ more n small w h. omega arith) next more n w
  where
    next : (more n : ℕ) → 10 ≤ n → ((w : ℕ) → n / 10 < 10 ^ suc w → length (decimal_from more (n / 10)) ≤ suc w)
        → (w : ℕ) → n < 10 ^ suc w → length (decimal_from more (n / 10) ++ digit (n % 10) ∷ []) ≤ suc w
    next more n ten shorter zero h = absurd (omega (arith, h))
    next more n ten shorter (suc w) h =
        omega (arith, length-append (decimal_from more (n / 10)) (digit (n % 10) ∷ []), shorter w (omega (arith, h, pow-suc 10 (suc w))))

-- and never more than the definition has
pub decimal_most : (more n : ℕ) → length (decimal_from more n) ≤ suc more
decimal_most = by_digits (λ more n t. length t ≤ suc more) (λ more n small. omega arith)
    (λ more n ten shorter. omega (arith, length-append (decimal_from more (n / 10)) (digit (n % 10) ∷ []), shorter))

-- all of them: they spell the number
pub decimal_spelt : (more n : ℕ) → n < 10 ^ suc more → spelt 0 (decimal_from more n) ≡ n
unfolding spelt
decimal_spelt = by_digits (λ more n t. n < 10 ^ suc more → spelt 0 t ≡ n) (λ more n small h. omega (arith, small h)) next
  where
    next : (more n : ℕ) → 10 ≤ n → (n / 10 < 10 ^ suc more → spelt 0 (decimal_from more (n / 10)) ≡ n / 10)
        → n < 10 ^ suc (suc more) → spelt 0 (decimal_from more (n / 10) ++ digit (n % 10) ∷ []) ≡ n
    next more n ten shorter h =
        spelt_append 0 (decimal_from more (n / 10)) (digit (n % 10) ∷ [])
        ∙ ap (λ q. q * 10 + (digit (n % 10) - digit 0)) (shorter (omega (arith, h, pow-suc 10 (suc more))))
        ∙ omega arith

-- ---- bytes that are digits

pub from_append : (least : ℕ) (xs ys : Bytes) → From least xs → From least ys → From least (xs ++ ys)
unfolding From
from_append least [] ys h k = k
from_append least (x ∷ xs) ys h k = (h.0, from_append least xs ys h.1 k)

pub decimal_digits : (more n : ℕ) → Digits (decimal_from more n)
unfolding From
decimal_digits = by_digits (λ more n t. Digits t) (λ more n small. record { some = omega arith; bytes = (omega arith, tt) }) next
  where
    next : (more n : ℕ) → 10 ≤ n → Digits (decimal_from more (n / 10)) → Digits (decimal_from more (n / 10) ++ digit (n % 10) ∷ [])
    next more n ten d = record {
      some = omega (arith, length-append (decimal_from more (n / 10)) (digit (n % 10) ∷ []));
      bytes = from_append (digit 0) (decimal_from more (n / 10)) (digit (n % 10) ∷ []) d.bytes (omega arith, tt);
    }

-- one digit more
digits_snoc : (t : Bytes) (d : ℕ) → are_digits t ≡ true → within (digit 0) (digit 9) d ≡ true → are_digits (t ++ d ∷ []) ≡ true
unfolding are_digits
digits_snoc [] d h k = absurd (false≢true h)
digits_snoc (x ∷ []) d h k = rw (h, k) refl
digits_snoc (x ∷ y ∷ ys) d h k = by_first (within (digit 0) (digit 9) x) h (λ rest. digits_snoc (y ∷ ys) d rest k)
  where
    by_first : (b : Bool) → b && are_digits (y ∷ ys) ≡ true → (are_digits (y ∷ ys) ≡ true → are_digits (y ∷ ys ++ d ∷ []) ≡ true)
        → b && are_digits (y ∷ ys ++ d ∷ []) ≡ true
    by_first true h longer = longer h
    by_first false h longer = absurd (false≢true h)

decimal_are : (more n : ℕ) → n < 10 ^ suc more → are_digits (decimal_from more n) ≡ true
unfolding are_digits
decimal_are = by_digits (λ more n t. n < 10 ^ suc more → are_digits t ≡ true) (λ more n small h. is_digit n (small h)) next
  where
    is_digit : (d : ℕ) → d < 10 → within (digit 0) (digit 9) (digit d) ≡ true
    is_digit d h = rw (le-leb (digit 0) (digit d) (omega arith), le-leb (digit d) (digit 9) (omega arith)) refl

    next : (more n : ℕ) → 10 ≤ n → (n / 10 < 10 ^ suc more → are_digits (decimal_from more (n / 10)) ≡ true)
        → n < 10 ^ suc (suc more) → are_digits (decimal_from more (n / 10) ++ digit (n % 10) ∷ []) ≡ true
    next more n ten shorter h =
        digits_snoc (decimal_from more (n / 10)) (digit (n % 10)) (shorter (omega (arith, h, pow-suc 10 (suc more))))
        (is_digit (n % 10) (omega arith))

digits_read : (t : Bytes) → Digits t → are_digits t ≡ true → read_number t ≡ some (pos (spelt 0 t))
unfolding read_number read_digits From
digits_read [] d e = absurd (omega (arith, d.some))
digits_read (x ∷ xs) d e =
    rw (ne_eqb x space (λ e. omega (arith, e, d.bytes.0)), ne_eqb x minus (λ e. omega (arith, e, d.bytes.0)), e) refl

-- ---- a number in its columns

signed_read : (z : ℤ) → nat_abs z < 10 ^ suc more_digits → read_number (signed_decimal z) ≡ some z
unfolding signed_decimal read_number read_digits
signed_read (pos n) h =
    digits_read (decimal n) (decimal_digits more_digits n) (decimal_are more_digits n h)
    ∙ ap (λ m. some (pos m)) (decimal_spelt more_digits n h)
signed_read (negsuc n) h = rw (decimal_are more_digits (suc n) h, decimal_spelt more_digits (suc n) h) refl

spaces_read : (n : ℕ) (t : Bytes) → read_number (replicate n space ++ t) ≡ read_number t
unfolding read_number
spaces_read zero t = refl
spaces_read (suc n) t = spaces_read n t

pub aligned_read : (columns : ℕ) (z : ℤ) → nat_abs z < 10 ^ suc more_digits → read_number (aligned columns (signed_decimal z)) ≡ some z
unfolding aligned
aligned_read columns z h = spaces_read (columns - length (signed_decimal z)) (signed_decimal z) ∙ signed_read z h

pub aligned_length : (columns : ℕ) (t : Bytes) → length t ≤ columns → length (aligned columns t) ≡ columns
unfolding aligned
aligned_length columns t fits =
    length-append (replicate (columns - length t) space) t
    ∙ ap (λ n. n + length t) (length-replicate (columns - length t) space)
    ∙ omega arith

-- ---- no byte of a number ends a line

spaces_from : (n : ℕ) → From space (replicate n space)
unfolding From
spaces_from zero = tt
spaces_from (suc n) = (omega arith, spaces_from n)

from_less : {least more : ℕ} → least ≤ more → (t : Bytes) → From more t → From least t
unfolding From
from_less less [] h = tt
from_less less (x ∷ xs) h = (omega (arith, less, h.0), from_less less xs h.1)

signed_from : (z : ℤ) → From space (signed_decimal z)
unfolding signed_decimal From
signed_from (pos n) = from_less (omega arith) (decimal n) (decimal_digits more_digits n).bytes
signed_from (negsuc n) = (omega arith, from_less (omega arith) (decimal (suc n)) (decimal_digits more_digits (suc n)).bytes)

pub aligned_from : (columns : ℕ) (z : ℤ) → From space (aligned columns (signed_decimal z))
unfolding aligned
aligned_from columns z =
    from_append space (replicate (columns - length (signed_decimal z)) space) (signed_decimal z)
    (spaces_from (columns - length (signed_decimal z))) (signed_from z)

-- how many bytes a sign and digits have
pub signed_length : (w : ℕ) (z : ℤ) → nat_abs z < 10 ^ suc w → length (signed_decimal z) ≤ suc (suc w)
unfolding signed_decimal
signed_length w (pos n) h = omega (arith, decimal_length w more_digits n h)
signed_length w (negsuc n) h = omega (arith, decimal_length w more_digits (suc n) h)

pub signed_most : (z : ℤ) → length (signed_decimal z) ≤ suc (suc more_digits)
unfolding signed_decimal
signed_most (pos n) = omega (arith, decimal_most more_digits n)
signed_most (negsuc n) = omega (arith, decimal_most more_digits (suc n))
