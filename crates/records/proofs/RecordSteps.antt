-- One turn of the loops over a record's parts: the mean that is read so far, and the buffer that is written so far.
use mathlib.Core.Path.{◌≡◌, sym, ap, ap₂, ◌∙◌}
use mathlib.Core.List.{List, [], ◌∷◌, ◌++◌, append_assoc, append-nil}
use Prim.Native.Nat.{ℕ, suc, ◌+◌, ◌*◌, ◌-◌, ◌≤◌, ◌<◌}
use native.Mathlib.Nat.{zero-add}
use native.Mathlib.Numerals.{add-one}
use native.Mathlib.Omega.{arith}
use lib.IntN.{ℤ, pos}
use lib.ListN.{length, take, drop, set, replicate, length-append, take-append-drop, get_or}
use lib.Seq.{set_at, take_at, drop-append-add, drop-drop, drop-cons, length-take-le}
use Rattle.definitions.specs.Words.{tab_from, part}
use Rattle.definitions.specs.Layout.{Bytes, parts, record_length, bytes_of, four_bytes, part_bytes, record_of}
use Rattle.laws.specs.NumberBytes.{Put}
use Rattle.laws.proofs.Tables.{tab_from_length, tab_from_snoc}
use Rattle.records.specs.Records.{with_parts, bytes_length, part_bytes_length, part_bytes_snoc}

-- ---- reading: part k in place of the first zero

pub read_next : (f : ℕ → ℤ) (size k : ℕ) → k < size
    → set (tab_from 0 k f ++ replicate (size - k) (pos 0)) k (f k) ≡ tab_from 0 (k + 1) f ++ replicate (size - (k + 1)) (pos 0)
read_next f size k h =
    let e : size - k ≡ suc (size - (k + 1)) = omega arith in
    ap (λ n. set (tab_from 0 k f ++ replicate n (pos 0)) k (f k)) e
    ∙ set_at (tab_from 0 k f) (pos 0) (replicate (size - (k + 1)) (pos 0)) (f k) k (tab_from_length 0 k f)
    ∙ sym (append_assoc (tab_from 0 k f) (f k ∷ []) (replicate (size - (k + 1)) (pos 0)))
    ∙ ap (λ l. l ++ replicate (size - (k + 1)) (pos 0))
    (ap (λ j. tab_from 0 k f ++ f j ∷ []) (sym (zero-add k)) ∙ sym (tab_from_snoc 0 k f) ∙ ap (λ n. tab_from 0 n f) (sym (add-one k)))

-- ---- the bytes of part k behind those of the parts before it

module _ (b : Bytes) (μ : List ℤ) where
  abbrev put : ℕ → Bytes
  put = with_parts b μ

  pub put_none : b ≡ put 0
  unfolding part_bytes
  put_none = sym (ap (λ l. l ++ drop 5 b) (append-nil (take 5 b)) ∙ take-append-drop 5 b)

  abbrev written : ℕ → Bytes
  written k = take 5 b ++ part_bytes 0 k μ

  written_length : (k : ℕ) → 5 ≤ length b → length (written k) ≡ 5 + 4 * k
  written_length k h = length-append (take 5 b) (part_bytes 0 k μ) ∙ ap₂ ◌+◌ (length-take-le 5 b h) (part_bytes_length μ 0 k)

  -- part k is written: v at the place p of the buffer c, which then is d
  pub put_next : (k : ℕ) {c d : Bytes} {p v : ℕ} → c ≡ put k → Put 4 c p v d
      → p ≡ 5 + 4 * k → v ≡ four_bytes (part μ k) → 5 + 4 * k + 4 ≤ length b → d ≡ put (k + 1)
  put_next k {c} {d} {p} {v} so_far stored place value room =
      let at = 5 + 4 * k in
      let four = bytes_of 4 (four_bytes (part μ k)) in
      let long : length (written k) ≡ at = written_length k (omega arith) in
      let front : take at (put k) ≡ written k = take_at (written k) (drop at b) at long in
      let next : at + 4 ≡ 5 + 4 * (k + 1) = omega arith in
      let behind : drop (at + 4) (put k) ≡ drop (5 + 4 * (k + 1)) b =
      ap (λ n. drop (n + 4) (put k)) (sym long)
      ∙ drop-append-add (written k) (drop at b) 4
      ∙ drop-drop 4 at b
      ∙ ap (λ n. drop n b) next in
      let one_more : part_bytes 0 k μ ++ four ≡ part_bytes 0 (k + 1) μ =
      ap (λ j. part_bytes 0 k μ ++ bytes_of 4 (four_bytes (part μ j))) (sym (zero-add k))
      ∙ sym (part_bytes_snoc μ 0 k)
      ∙ ap (λ n. part_bytes 0 n μ) (sym (add-one k)) in
      let more : written k ++ four ≡ written (k + 1) =
      append_assoc (take 5 b) (part_bytes 0 k μ) four ∙ ap (λ l. take 5 b ++ l) one_more in
      rw (so_far, place, value) at stored.is
      ∙ ap₂ (λ x y. x ++ four ++ y) front behind
      ∙ ap (λ l. l ++ drop (5 + 4 * (k + 1)) b) more

-- ---- the header before the parts

module _ (J : ℕ) (b : Bytes) (μ : List ℤ) where
  -- the buffer with its first five bytes written
  abbrev headed : Bytes
  headed = bytes_of 4 (record_length J) ++ 1 ∷ drop 5 b

  header : Bytes
  header = bytes_of 4 (record_length J) ++ 1 ∷ []

  header_length : length header ≡ 5
  unfolding header
  header_length = length-append (bytes_of 4 (record_length J)) (1 ∷ []) ∙ ap (λ n. n + 1) (bytes_length 4 (record_length J))

  header_behind : headed ≡ header ++ drop 5 b
  unfolding header
  header_behind = sym (append_assoc (bytes_of 4 (record_length J)) (1 ∷ []) (drop 5 b))

  pub record_put : with_parts headed μ (parts J) ≡ record_of J μ ++ drop (record_length J) b
  unfolding header
  record_put =
      let front : take 5 headed ≡ header = ap (take 5) header_behind ∙ take_at header (drop 5 b) 5 header_length in
      let behind : drop (record_length J) headed ≡ drop (record_length J) b
      = ap (drop (record_length J)) header_behind ∙ ap (λ n. drop (n + 4 * parts J) (header ++ drop 5 b)) (sym header_length)
      ∙ drop-append-add header (drop 5 b) (4 * parts J) ∙ drop-drop (4 * parts J) 5 b in
      ap₂ (λ x y. x ++ part_bytes 0 (parts J) μ ++ y) front behind
      ∙ ap (λ l. l ++ drop (record_length J) b) (append_assoc (bytes_of 4 (record_length J)) (1 ∷ []) (part_bytes 0 (parts J) μ))

-- the fifth byte behind the four of the length
pub header_put : (n : ℕ) (b : Bytes) → 5 ≤ length b → set (take 0 b ++ bytes_of 4 n ++ drop (0 + 4) b) 4 1 ≡ bytes_of 4 n ++ 1 ∷ drop 5 b
header_put n b h =
    ap (λ l. set (bytes_of 4 n ++ l) 4 1) (drop-cons b 4 0 h) ∙ set_at (bytes_of 4 n) (get_or b 4 0) (drop 5 b) 1 4 (bytes_length 4 n)
