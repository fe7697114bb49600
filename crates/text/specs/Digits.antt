-- A number that is spelt from its last digit to its first, right-aligned in 20 bytes.
use Rattle.std.specs.Prelude.{ℕ, zero, suc, ◌+◌, ◌-◌, ◌/◌, ◌%◌, ◌^◌, ◌≤◌, ◌<◌, ◌≡◌, refl, List, [], ◌∷◌, ◌++◌, length, drop, set, replicate}
use Rattle.std.proofs.Common.{sym, ap, subst, ◌∙◌, append_assoc, append-nil, pow-suc, zero-add, suc-add, arith, drop_at}
use Rattle.std.proofs.lemmas.List.{length-replicate, set_at}
use Rattle.definitions.specs.Text.{space, minus, digit, decimal_from, more_digits, decimal, aligned}
use Rattle.laws.proofs.Decimal.{decimal_last, decimal_more, decimal_length}
use Rattle.text.specs.declared.digits.Digits.{Digits}

-- the text at the right end of the 20 bytes, and where it begins
pub record Spelt (text : List ℕ) (d : Digits) : Type 0 where
  pub bytes : d.bytes ≡ aligned 20 text
  pub from : d.from + length text ≡ 20

-- one space less
spaces_snoc : (n : ℕ) → replicate (suc n) space ≡ replicate n space ++ space ∷ []
spaces_snoc zero = refl
spaces_snoc (suc n) = ap (λ l. space ∷ l) (spaces_snoc n)

-- a byte in place of the last space
pub last_space : (n x : ℕ) (text : List ℕ) → set (replicate (suc n) space ++ text) n x ≡ replicate n space ++ x ∷ text
last_space n x text =
    ap (λ l. set (l ++ text) n x) (spaces_snoc n)
    ∙ ap (λ l. set l n x) (append_assoc (replicate n space) (space ∷ []) text)
    ∙ set_at (replicate n space) space text x n (length-replicate n space)

-- a text that ends where the 20 bytes end
pub spaces_before : (from : ℕ) (text : List ℕ) → from + length text ≡ 20 → aligned 20 text ≡ replicate from space ++ text
unfolding aligned
spaces_before from text e =
    let left : 20 - length text ≡ from = omega (arith, e) in ap (λ k. replicate k space ++ text) left

less_one : (k : ℕ) → k ≡ suc k - 1
less_one k = omega arith

-- where the loop is: so many places are left, the digits behind them are written, and what is left of the number gives the others
pub record Spelling (n : ℕ) (bytes : List ℕ) (at rest : ℕ) : Type 0 where
  pub written : List ℕ
  pub are : bytes ≡ replicate (suc at) space ++ written
  pub long : suc at + length written ≡ 20
  pub small : rest < 10 ^ suc at
  pub digits : decimal_from at rest ++ written ≡ decimal n

pub spelling_starts : (n : ℕ) → n < 2 ^ 64 → Spelling n (replicate 20 space) 19 n
spelling_starts n h = record {
  written = [];
  are = sym (append-nil (replicate 20 space));
  long = refl;
  small = omega (arith, h);
  digits = append-nil (decimal n);
}

-- while the number has more than one digit, a place is left for the next
pub places_left : {n : ℕ} {bytes : List ℕ} (at rest : ℕ) → Spelling n bytes at rest → 9 < rest → 1 ≤ at
places_left zero rest s more = absurd (omega (arith, s.small, more))
places_left (suc at) rest s more = omega arith

pub spelling_next : {n : ℕ} {bytes : List ℕ} (at rest : ℕ) → Spelling n bytes at rest → 9 < rest
    → Spelling n (set bytes at (48 + rest % 10)) (at - 1) (rest / 10)
spelling_next zero rest s more = absurd (omega (arith, s.small, more))
spelling_next {n} {bytes} (suc at) rest s more =
    let last = digit (rest % 10) in
    subst (λ k. Spelling n (set bytes (suc at) last) k (rest / 10)) (less_one at) (record {
      written = last ∷ s.written;
      are = ap (λ l. set l (suc at) last) s.are ∙ last_space (suc at) last s.written;
      long = omega (arith, s.long);
      small = omega (arith, s.small, pow-suc 10 (suc at));
      digits =
          sym (append_assoc (decimal_from at (rest / 10)) (last ∷ []) s.written)
          ∙ ap (λ l. l ++ s.written) (sym (decimal_more at rest (omega (arith, more))))
          ∙ s.digits;
    })

-- the first digit
pub spelling_ends : {n : ℕ} {bytes : List ℕ} (at rest : ℕ) → Spelling n bytes at rest → rest < 10
    → Spelt (decimal n) (record { bytes = set bytes at (48 + rest); from = at })
spelling_ends {n} at rest s one =
    let whole : digit rest ∷ s.written ≡ decimal n = ap (λ l. l ++ s.written) (sym (decimal_last at rest one)) ∙ s.digits in
    let long : length (decimal n) ≡ suc (length s.written) = ap length (sym whole) in
    record {
      bytes =
          ap (λ l. set l at (digit rest)) s.are
          ∙ last_space at (digit rest) s.written
          ∙ ap (λ l. replicate at space ++ l) whole
          ∙ sym (spaces_before at (decimal n) (omega (arith, long, s.long)));
      from = omega (arith, long, s.long);
    }

-- a sign before the digits
pub signed_spelt : {text : List ℕ} (bytes : List ℕ) (from : ℕ) → Spelt text (record { bytes = bytes; from = from }) → 1 ≤ from
    → Spelt (minus ∷ text) (record { bytes = set bytes (from - 1) minus; from = from - 1 })
signed_spelt bytes zero s some = absurd (omega arith)
signed_spelt {text} bytes (suc from) s some =
    subst (λ k. Spelt (minus ∷ text) (record { bytes = set bytes k minus; from = k })) (less_one from) (record {
      bytes =
          ap (λ l. set l from minus) (s.bytes ∙ spaces_before (suc from) text s.from)
          ∙ last_space from minus text
          ∙ sym (spaces_before from (minus ∷ text) (omega (arith, s.from)));
      from = omega (arith, s.from);
    })

-- the size of a 64-bit number has at most 19 digits, so that there is room for a sign
pub room_for_sign : (n : ℕ) {d : Digits} → n ≤ 2 ^ 63 → Spelt (decimal n) d → 1 ≤ d.from
room_for_sign n small s = omega (arith, s.from, decimal_length 18 more_digits n (omega (arith, small)))

-- the end of the bytes from where the text begins is the text
pub spelt_end : {text : List ℕ} {d : Digits} → Spelt text d → drop d.from d.bytes ≡ text
spelt_end {text} {d} s =
    ap (drop d.from) (s.bytes ∙ spaces_before d.from text s.from)
    ∙ drop_at (replicate d.from space) text d.from (length-replicate d.from space)

-- the last columns have the text right-aligned
pub spelt_columns : {text : List ℕ} {d : Digits} (columns : ℕ) → Spelt text d → length text ≤ columns → columns ≤ 20
    → drop (20 - columns) d.bytes ≡ aligned columns text
unfolding aligned
spelt_columns {text} columns s fits few =
    let spaces : 20 - length text ≡ (20 - columns) + (columns - length text) = omega arith in
    ap (drop (20 - columns)) (s.bytes ∙ ap (λ n. replicate n space ++ text) spaces)
    ∙ fewer (20 - columns) (columns - length text) text
  where
    fewer : (n m : ℕ) (text : List ℕ) → drop n (replicate (n + m) space ++ text) ≡ replicate m space ++ text
    fewer zero m text = ap (λ k. replicate k space ++ text) (zero-add m)
    fewer (suc n) m text = ap (λ k. drop (suc n) (replicate k space ++ text)) (suc-add n m) ∙ fewer n m text
