-- Mean records. A mean inside the limits is written into its record and read back whole, so that two means never have the same record.
use Prim.Native.Nat.{ℕ, zero, suc, ◌+◌, ◌*◌, ◌-◌, ◌/◌, ◌%◌, ◌^◌, ◌≤◌, ◌<◌}
use Rattle.std.specs.Prelude.{◌≡◌, true, ℤ, pos, negsuc, nat_abs, drop, replicate}
use Rattle.std.proofs.Math.Path.{refl, sym, ap, ap₂}
use Rattle.std.proofs.Common.{◌∙◌, add-zero, zero-add, add-suc, suc-add, pow-suc, add-one, lt-ltb, le-ltb, le-leb, eq-eqb, drop_at, ext_get_or}
use mathlib.Core.List.{List, [], ◌∷◌, ◌++◌, append_assoc, append-nil}
use native.Mathlib.Omega.{arith}
use Rattle.std.proofs.Math.ListN.{length, take, length-append}
use Rattle.std.proofs.Math.Seq.{take_at, drop-append-add}
use Rattle.integers.specs.Linear.{linear}
use Rattle.definitions.specs.Words.{part}
use Rattle.definitions.specs.Layout.{Bytes, big_endian, unsigned, twos_complement, signed, length_word, version, parts, part_at, record_length}
use Rattle.definitions.specs.Layout.{mean_of, bytes_of, four_bytes, part_bytes, record_of}
use Rattle.definitions.specs.Refusals.{part_limit, good_part, clear, record_check}
use Rattle.laws.proofs.ClearChecks.{fields_good}
use Rattle.laws.proofs.Tables.{tab_from_length, tab_at}

-- so many parts of a mean are inside the limits
abbrev pub InLimits : ℕ → List ℤ → Type 0
InLimits n μ = (k : ℕ) → k < n → nat_abs (part μ k) ≤ part_limit

-- what a writer of records asks of the mean and of the buffer
abbrev pub Writes : ℕ → List ℤ → Bytes → Type 0
Writes last μ b = (last ≤ 15) × (record_length last ≤ length b) × InLimits (parts last) μ

-- a buffer with k parts behind its first five bytes; the bytes behind them are as they were
abbrev pub with_parts : Bytes → List ℤ → ℕ → Bytes
with_parts b μ k = take 5 b ++ part_bytes 0 k μ ++ drop (5 + 4 * k) b

-- ---- bytes of a number

pub bytes_length : (n v : ℕ) → length (bytes_of n v) ≡ n
unfolding bytes_of
bytes_length zero v = refl
bytes_length (suc n) v = length-append (bytes_of n (v / 256)) (v % 256 ∷ []) ∙ ap (λ m. m + 1) (bytes_length n (v / 256)) ∙ add-one n

big_endian_append : (a : ℕ) (xs ys : Bytes) → big_endian a (xs ++ ys) ≡ big_endian (big_endian a xs) ys
unfolding big_endian
big_endian_append a [] ys = refl
big_endian_append a (x ∷ xs) ys = big_endian_append (a * 256 + x) xs ys

pub bytes_read : (n v : ℕ) → v < 256 ^ n → big_endian 0 (bytes_of n v) ≡ v
unfolding bytes_of big_endian
bytes_read zero v h = omega arith
bytes_read (suc n) v h =
    let small : v < 256 ^ n * 256 = rw (pow-suc 256 n) at h in
    big_endian_append 0 (bytes_of n (v / 256)) (v % 256 ∷ [])
    ∙ ap (λ q. q * 256 + v % 256) (bytes_read n (v / 256) (omega arith))
    ∙ omega arith

-- ---- a part in two's complement

pub four_small : (z : ℤ) → nat_abs z ≤ part_limit → four_bytes z < 2 ^ 32
unfolding four_bytes
four_small (pos n) h = omega arith
four_small (negsuc n) h = omega arith

pub four_read : (z : ℤ) → nat_abs z ≤ part_limit → twos_complement (four_bytes z) ≡ z
unfolding four_bytes twos_complement
four_read (pos n) h = rw (lt-ltb n (2 ^ 31) (omega arith))
four_read (negsuc n) h = rw (le-ltb (2 ^ 32 - suc n) (2 ^ 31) (omega arith)) (simp linear (omega arith))

-- ---- the parts of a record

module _ (μ : List ℤ) where
  pub part_bytes_length : (k n : ℕ) → length (part_bytes k n μ) ≡ 4 * n
  unfolding part_bytes
  part_bytes_length k zero = refl
  part_bytes_length k (suc n) =
      length-append (bytes_of 4 (four_bytes (part μ k))) (part_bytes (suc k) n μ)
      ∙ ap₂ ◌+◌ (bytes_length 4 (four_bytes (part μ k))) (part_bytes_length (suc k) n)
      ∙ omega arith

  pub part_bytes_snoc : (k n : ℕ) → part_bytes k (suc n) μ ≡ part_bytes k n μ ++ bytes_of 4 (four_bytes (part μ (k + n)))
  unfolding part_bytes
  part_bytes_snoc k zero = append-nil (bytes_of 4 (four_bytes (part μ k))) ∙ ap (λ j. bytes_of 4 (four_bytes (part μ j))) (sym (add-zero k))
  part_bytes_snoc k (suc n) =
      ap (λ l. bytes_of 4 (four_bytes (part μ k)) ++ l)
      (part_bytes_snoc (suc k) n ∙ ap (λ j. part_bytes (suc k) n μ ++ bytes_of 4 (four_bytes (part μ j))) (suc-add k n ∙ sym (add-suc k n)))
      ∙ sym (append_assoc (bytes_of 4 (four_bytes (part μ k))) (part_bytes (suc k) n μ) (bytes_of 4 (four_bytes (part μ (k + suc n)))))

  -- the bytes of part j
  part_bytes_at : (k n j : ℕ) → j < n → take 4 (drop (4 * j) (part_bytes k n μ)) ≡ bytes_of 4 (four_bytes (part μ (k + j)))
  unfolding part_bytes
  part_bytes_at k zero j h = absurd (omega arith)
  part_bytes_at k (suc n) zero h =
      take_at (bytes_of 4 (four_bytes (part μ k))) (part_bytes (suc k) n μ) 4 (bytes_length 4 (four_bytes (part μ k)))
      ∙ ap (λ i. bytes_of 4 (four_bytes (part μ i))) (sym (add-zero k))
  part_bytes_at k (suc n) (suc j) h =
      let first = bytes_of 4 (four_bytes (part μ k)) in
      let place : 4 * suc j ≡ length first + 4 * j = omega (arith, bytes_length 4 (four_bytes (part μ k))) in
      ap (λ m. take 4 (drop m (first ++ part_bytes (suc k) n μ))) place
      ∙ ap (take 4) (drop-append-add first (part_bytes (suc k) n μ) (4 * j))
      ∙ part_bytes_at (suc k) n j (omega arith)
      ∙ ap (λ i. bytes_of 4 (four_bytes (part μ i))) (suc-add k j ∙ sym (add-suc k j))

-- ---- what is written is read back

module _ (J : ℕ) (μ : List ℤ) (inside : InLimits (parts J) μ) where
  pub part_read : (k : ℕ) → k < parts J → signed (part_at k) (record_of J μ) ≡ part μ k
  unfolding unsigned
  part_read k h =
      let header = bytes_of 4 (record_length J) in
      let place : 5 + 4 * k ≡ length header + suc (4 * k) = omega (arith, bytes_length 4 (record_length J)) in
      let bytes : take 4 (drop (5 + 4 * k) (record_of J μ)) ≡ bytes_of 4 (four_bytes (part μ k)) =
      ap (λ m. take 4 (drop m (record_of J μ))) place
      ∙ ap (take 4) (drop-append-add header (1 ∷ part_bytes 0 (parts J) μ) (suc (4 * k)))
      ∙ part_bytes_at μ 0 (parts J) k h
      ∙ ap (λ i. bytes_of 4 (four_bytes (part μ i))) (zero-add k) in
      ap (λ l. twos_complement (big_endian 0 l)) bytes
      ∙ ap twos_complement (bytes_read 4 (four_bytes (part μ k)) (four_small (part μ k) (inside k h)))
      ∙ four_read (part μ k) (inside k h)

  pub mean_read : length μ ≡ parts J → mean_of J (record_of J μ) ≡ μ
  mean_read e =
      let f : ℕ → ℤ = λ k. signed (part_at k) (record_of J μ) in
      let long = tab_from_length 0 (parts J) f in
      ext_get_or (pos 0) (mean_of J (record_of J μ)) μ (long ∙ sym e) (λ k h.
      let below : k < parts J = omega (arith, long) in
      tab_at (parts J) f k (pos 0) below ∙ part_read k below)

-- ---- what is written is not refused

pub record_length_lem : (J : ℕ) (μ : List ℤ) → length (record_of J μ) ≡ record_length J
record_length_lem J μ =
    length-append (bytes_of 4 (record_length J)) (1 ∷ part_bytes 0 (parts J) μ)
    ∙ ap₂ (λ m n. m + suc n) (bytes_length 4 (record_length J)) (part_bytes_length μ 0 (parts J))
    ∙ omega arith

length_read : (J : ℕ) (μ : List ℤ) → record_length J < 2 ^ 32 → length_word (record_of J μ) ≡ record_length J
unfolding unsigned
length_read J μ small =
    ap (big_endian 0) (take_at (bytes_of 4 (record_length J)) (1 ∷ part_bytes 0 (parts J) μ) 4 (bytes_length 4 (record_length J)))
    ∙ bytes_read 4 (record_length J) small

version_read : (J : ℕ) (μ : List ℤ) → version (record_of J μ) ≡ 1
unfolding unsigned big_endian
version_read J μ =
    ap (λ l. big_endian 0 (take 1 l))
    (drop_at (bytes_of 4 (record_length J)) (1 ∷ part_bytes 0 (parts J) μ) 4 (bytes_length 4 (record_length J)))

pub record_clear : (J : ℕ) (μ : List ℤ) → J ≤ 15 → InLimits (parts J) μ → record_check J (record_of J μ) ≡ clear
unfolding record_check
record_clear J μ small inside =
    let r = record_of J μ in
    let long : 5 ≤ length r = omega (arith, record_length_lem J μ) in
    let right = eq-eqb (length_word r) (length r) (length_read J μ (omega arith) ∙ sym (record_length_lem J μ)) in
    let good : (k : ℕ) → k < parts J → good_part (signed (part_at k) r) ≡ true
    = λ k h. rw (part_read J μ inside k h) (le-leb (nat_abs (part μ k)) part_limit (inside k h)) in
    rw (
      le-leb 5 (length r) long,
      right,
      eq-eqb (version r) 1 (version_read J μ),
      eq-eqb (length r) (record_length J)
          (record_length_lem J μ),
    )
    (fields_good (λ k. good_part (signed (part_at k) r)) 11 part_at 0 (parts J) (λ k from to. good k (omega arith)))

-- ---- only the parts count

-- zeros behind a mean are no parts of it
pub part_padded : (μ : List ℤ) (n k : ℕ) → part (μ ++ replicate n (pos 0)) k ≡ part μ k
part_padded [] zero k = refl
part_padded [] (suc n) zero = refl
part_padded [] (suc n) (suc k) = part_padded [] n k
part_padded (z ∷ μ) n zero = refl
part_padded (z ∷ μ) n (suc k) = part_padded μ n k

part_bytes_cong : (μ ν : List ℤ) (k n : ℕ) → ((j : ℕ) → j < n → part μ (k + j) ≡ part ν (k + j)) → part_bytes k n μ ≡ part_bytes k n ν
unfolding part_bytes
part_bytes_cong μ ν k zero same = refl
part_bytes_cong μ ν k (suc n) same =
    ap₂ (λ z l. bytes_of 4 (four_bytes z) ++ l) (rw (add-zero k) at (same 0 (omega arith)))
    (part_bytes_cong μ ν (suc k) n (λ j h. rw (suc-add k j, ← add-suc k j) (same (suc j) (omega arith))))

pub record_cong : (J : ℕ) (μ ν : List ℤ) → ((k : ℕ) → k < parts J → part μ k ≡ part ν k) → record_of J μ ≡ record_of J ν
record_cong J μ ν same =
    ap (λ l. bytes_of 4 (record_length J) ++ 1 ∷ l) (part_bytes_cong μ ν 0 (parts J) (λ k h. rw (zero-add k) (same k h)))

-- two means of the same record are the same
pub record_injective : (J : ℕ) (μ ν : List ℤ) → length μ ≡ parts J → length ν ≡ parts J → InLimits (parts J) μ → InLimits (parts J) ν
    → record_of J μ ≡ record_of J ν → μ ≡ ν
record_injective J μ ν d e h k same = sym (mean_read J μ h d) ∙ ap (mean_of J) same ∙ mean_read J ν k e
