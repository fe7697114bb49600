-- Numbers as bytes: how many they are, that they are read back whole, and a list of numbers written into a buffer one after another. The
-- width of a number is left open: a part of a record has 4 bytes, a residue 8.
use Prim.Native.Nat.{ℕ, zero, suc, ◌+◌, ◌*◌, ◌/◌, ◌%◌, ◌^◌, ◌≤◌, ◌<◌}
use Rattle.std.specs.Prelude.{◌≡◌, refl, ℤ}
use Rattle.std.proofs.Math.Path.{sym, ap, ap₂}
use Rattle.std.proofs.Common.{◌∙◌, add-zero, zero-add, add-suc, suc-add, pow-suc, add-one, drop-drop, length-take-le}
use mathlib.Core.List.{List, [], ◌∷◌, ◌++◌, append_assoc, append-nil}
use native.Mathlib.Omega.{arith}
use Rattle.std.proofs.Math.ListN.{length, take, drop, length-append, take-append-drop}
use Rattle.std.proofs.Math.Seq.{take_at, drop-append-add}
use Rattle.definitions.specs.Words.{part}
use Rattle.definitions.specs.Layout.{Bytes, big_endian, bytes_of, complement, number_bytes}
use Rattle.laws.specs.NumberBytes.{Put}

-- ---- bytes of a number

pub bytes_length : (n v : ℕ) → length (bytes_of n v) ≡ n
unfolding bytes_of
bytes_length zero v = refl
bytes_length (suc n) v = length-append (bytes_of n (v / 256)) (v % 256 ∷ []) ∙ ap (λ m. m + 1) (bytes_length n (v / 256)) ∙ add-one n

big_endian_append : (a : ℕ) (xs ys : Bytes) → big_endian a (xs ++ ys) ≡ big_endian (big_endian a xs) ys
unfolding big_endian
big_endian_append a [] ys = refl
big_endian_append a (x ∷ xs) ys = big_endian_append (a * 256 + x) xs ys

pub bytes_read : (n v : ℕ) → v < 256 ^ n → big_endian 0 (bytes_of n v) ≡ v
unfolding bytes_of big_endian
bytes_read zero v h = omega arith
bytes_read (suc n) v h =
    let small : v < 256 ^ n * 256 = rw (pow-suc 256 n) at h in
    big_endian_append 0 (bytes_of n (v / 256)) (v % 256 ∷ [])
    ∙ ap (λ q. q * 256 + v % 256) (bytes_read n (v / 256) (omega arith))
    ∙ omega arith

-- ---- numbers one after another, each of so many bytes

module _ (width : ℕ) (v : List ℤ) where
  -- those of number k
  abbrev of : ℕ → Bytes
  of k = bytes_of width (complement width (part v k))

  pub number_bytes_length : (k n : ℕ) → length (number_bytes width k n v) ≡ width * n
  unfolding number_bytes
  number_bytes_length k zero = omega arith
  number_bytes_length k (suc n) =
      length-append (of k) (number_bytes width (suc k) n v)
      ∙ ap₂ ◌+◌ (bytes_length width (complement width (part v k))) (number_bytes_length (suc k) n)
      ∙ omega arith

  pub number_bytes_snoc : (k n : ℕ)
      → number_bytes width k (suc n) v ≡ number_bytes width k n v ++ bytes_of width (complement width (part v (k + n)))
  unfolding number_bytes
  number_bytes_snoc k zero = append-nil (of k) ∙ ap of (sym (add-zero k))
  number_bytes_snoc k (suc n) =
      ap (λ l. of k ++ l)
      (number_bytes_snoc (suc k) n ∙ ap (λ j. number_bytes width (suc k) n v ++ of j) (suc-add k n ∙ sym (add-suc k n)))
      ∙ sym (append_assoc (of k) (number_bytes width (suc k) n v) (of (k + suc n)))

  -- the bytes of one number, whatever stands behind them all
  pub number_bytes_at : (rest : Bytes) (k n j : ℕ) → j < n
      → take width (drop (width * j) (number_bytes width k n v ++ rest)) ≡ bytes_of width (complement width (part v (k + j)))
  unfolding number_bytes
  number_bytes_at rest k zero j h = absurd (omega arith)
  number_bytes_at rest k (suc n) zero h =
      let none : width * 0 ≡ 0 = omega arith in
      ap (λ m. take width (drop m (number_bytes width k (suc n) v ++ rest))) none
      ∙ ap (take width) (append_assoc (of k) (number_bytes width (suc k) n v) rest)
      ∙ take_at (of k) (number_bytes width (suc k) n v ++ rest) width (bytes_length width (complement width (part v k)))
      ∙ ap of (sym (add-zero k))
  number_bytes_at rest k (suc n) (suc j) h =
      let place : width * suc j ≡ length (of k) + width * j = omega (arith, bytes_length width (complement width (part v k))) in
      ap (λ m. take width (drop m (number_bytes width k (suc n) v ++ rest))) place
      ∙ ap (λ l. take width (drop (length (of k) + width * j) l)) (append_assoc (of k) (number_bytes width (suc k) n v) rest)
      ∙ ap (take width) (drop-append-add (of k) (number_bytes width (suc k) n v ++ rest) (width * j))
      ∙ number_bytes_at rest (suc k) n j (omega arith)
      ∙ ap of (suc-add k j ∙ sym (add-suc k j))

-- only the numbers count
pub number_bytes_cong : (width : ℕ) (v w : List ℤ) (k n : ℕ) → ((j : ℕ) → j < n → part v (k + j) ≡ part w (k + j))
    → number_bytes width k n v ≡ number_bytes width k n w
unfolding number_bytes
number_bytes_cong width v w k zero same = refl
number_bytes_cong width v w k (suc n) same =
    ap₂ (λ z l. bytes_of width (complement width z) ++ l) (rw (add-zero k) at (same 0 (omega arith)))
    (number_bytes_cong width v w (suc k) n (λ j h. rw (suc-add k j, ← add-suc k j) (same (suc j) (omega arith))))

-- ---- written into a buffer

-- numbers one after another, behind so many bytes of it
module _ (width head : ℕ) (b : Bytes) (v : List ℤ) where
  -- the first k of them; the bytes behind are as they were
  abbrev pub with_numbers : ℕ → Bytes
  with_numbers k = take head b ++ number_bytes width 0 k v ++ drop (head + width * k) b

  pub put_none : b ≡ with_numbers 0
  unfolding number_bytes
  put_none =
      let none : head + width * 0 ≡ head = omega arith in
      sym (ap₂ (λ l n. l ++ drop n b) (append-nil (take head b)) none ∙ take-append-drop head b)

  abbrev front : ℕ → Bytes
  front k = take head b ++ number_bytes width 0 k v

  front_length : (k : ℕ) → head ≤ length b → length (front k) ≡ head + width * k
  front_length k h =
      length-append (take head b) (number_bytes width 0 k v) ∙ ap₂ ◌+◌ (length-take-le head b h) (number_bytes_length width v 0 k)

  -- number k is written: x at the place p of the buffer c, which then is d
  pub put_next : (k : ℕ) {c d : Bytes} {p x : ℕ} → c ≡ with_numbers k → Put width c p x d
      → p ≡ head + width * k → x ≡ complement width (part v k) → head + width * k ≤ length b → d ≡ with_numbers (k + 1)
  put_next k {c} {d} {p} {x} so_far stored place value room =
      let at = head + width * k in
      let one = bytes_of width (complement width (part v k)) in
      let long : length (front k) ≡ at = front_length k (omega arith) in
      let before : take at (with_numbers k) ≡ front k = take_at (front k) (drop at b) at long in
      let next : at + width ≡ head + width * (k + 1) = omega arith in
      let behind : drop (at + width) (with_numbers k) ≡ drop (head + width * (k + 1)) b =
      ap (λ n. drop (n + width) (with_numbers k)) (sym long)
      ∙ drop-append-add (front k) (drop at b) width
      ∙ drop-drop width at b
      ∙ ap (λ n. drop n b) next in
      let one_more : number_bytes width 0 k v ++ one ≡ number_bytes width 0 (k + 1) v =
      ap (λ j. number_bytes width 0 k v ++ bytes_of width (complement width (part v j))) (sym (zero-add k))
      ∙ sym (number_bytes_snoc width v 0 k)
      ∙ ap (λ n. number_bytes width 0 n v) (sym (add-one k)) in
      let more : front k ++ one ≡ front (k + 1) =
      append_assoc (take head b) (number_bytes width 0 k v) one ∙ ap (λ l. take head b ++ l) one_more in
      rw (so_far, place, value) at stored.is
      ∙ ap₂ (λ x y. x ++ one ++ y) before behind
      ∙ ap (λ l. l ++ drop (head + width * (k + 1)) b) more
