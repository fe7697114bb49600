-- The page: every value fits its columns, and two different means never share a page.
use Rattle.std.specs.Prelude.{ℕ, ◌+◌, ◌-◌, ◌^◌, ◌≤◌, ◌<◌, ◌≡◌, refl, Bool, true, false, cond, List, [], ◌∷◌, ◌++◌, leb, ℤ, pos, nat_abs, take, drop, get_or}
use Rattle.std.proofs.Common.{sym, ap, ap₂, ◌∙◌, append_assoc, arith, length-append, take_at, drop_at, drop-drop, ext_get_or}
use Rattle.std.proofs.Math.Option.{some}
use Rattle.std.proofs.Math.ListN.{length}
use Rattle.std.proofs.Math.Seq.{drop-append-add}
use Rattle.definitions.specs.Words.{part, tab_from}
use Rattle.definitions.specs.Layout.{Bytes, last_year, parts}
use Rattle.definitions.specs.Refusals.{year_limit, part_limit}
use Rattle.definitions.specs.Matrix.{Part, Φ, Ψ, part_by_index, own, figures_from}
use Rattle.definitions.specs.Strikes.{StruckFile, Admitted, chain_left, figures_left}
use Rattle.definitions.specs.Text.{ascii, space, line_feed, decimal_from, more_digits, decimal, signed_decimal, aligned, read_number, name_of, index_of}
use Rattle.definitions.specs.Page.{page_line, page_of, columns, LineFits, PageFits}
use Rattle.laws.proofs.Accepted.{accepted_file}
use Rattle.laws.proofs.ChainLimits.{chain_limits}
use Rattle.laws.proofs.StruckFiles.{struck_chain}
use Rattle.laws.proofs.Tables.{tab_at}
use Rattle.laws.specs.Decimal.{From}
use Rattle.laws.proofs.Decimal.{aligned_read, aligned_length, decimal_length, signed_length, from_append, aligned_from}
use Rattle.laws.specs.Lines.{Line, ended}
use Rattle.laws.proofs.Lines.{lines_same, lines_length, line_at, line_behind, same_lines}
use Rattle.laws.specs.Pages.{InColumns, PageInColumns}

-- ---- a line

-- past so many bytes, and so many more
past : (xs ys : Bytes) (m n : ℕ) → length xs ≡ m → drop (m + n) (xs ++ ys) ≡ drop n ys
past xs ys m n long = ap (λ k. drop (k + n) (xs ++ ys)) (sym long) ∙ drop-append-add xs ys n

-- a name of three bytes, and numbers in 2, 9 and some more columns
module _ (name A B C : Bytes) (three : length name ≡ 3) (two : length A ≡ 2) (nine : length B ≡ 9) where
  abbrev text : Bytes
  text = name ++ space ∷ A ++ space ∷ B ++ space ∷ C ++ line_feed ∷ []

  abbrev last : Bytes
  last = C ++ line_feed ∷ []

  -- the same from its front on
  abbrev from_mean : Bytes
  from_mean = B ++ (space ∷ last)

  abbrev from_index : Bytes
  from_index = A ++ (space ∷ from_mean)

  from_front : text ≡ name ++ (space ∷ from_index)
  from_front =
      append_assoc (name ++ space ∷ A ++ space ∷ B) (space ∷ C) (line_feed ∷ [])
      ∙ append_assoc (name ++ space ∷ A) (space ∷ B) (space ∷ last)
      ∙ append_assoc name (space ∷ A) (space ∷ from_mean)

  -- what stands behind a piece
  behind_name : (n : ℕ) → drop (3 + n) text ≡ drop n (space ∷ from_index)
  behind_name n = ap (drop (3 + n)) from_front ∙ past name (space ∷ from_index) 3 n three

  from_mean_lem : drop 7 text ≡ from_mean
  from_mean_lem = behind_name 4 ∙ past A (space ∷ from_mean) 2 1 two

  behind_mean : (n : ℕ) → drop (9 + n) from_mean ≡ drop n (space ∷ last)
  behind_mean n = past B (space ∷ last) 9 n nine

  name_at : columns 1 3 text ≡ name
  name_at = ap (take 3) from_front ∙ take_at name (space ∷ from_index) 3 three

  index_at : columns 5 6 text ≡ A
  index_at = ap (take 2) (behind_name 1) ∙ take_at A (space ∷ from_mean) 2 two

  mean_at_lem : columns 8 16 text ≡ B
  mean_at_lem = ap (take 9) from_mean_lem ∙ take_at B (space ∷ last) 9 nine

  spaces_at : (columns 4 4 text ≡ space ∷ []) × (columns 7 7 text ≡ space ∷ []) × (columns 17 17 text ≡ space ∷ [])
  spaces_at = (
    ap (take 1) (behind_name 0),
    ap (take 1) (behind_name 3 ∙ past A (space ∷ from_mean) 2 0 two),
    ap (take 1) (sym (drop-drop 9 7 text) ∙ ap (drop 9) from_mean_lem ∙ behind_mean 0),
  )

  from_weight : drop 17 text ≡ last
  from_weight = sym (drop-drop 10 7 text) ∙ ap (drop 10) from_mean_lem ∙ behind_mean 1

  module _ (ten : length C ≡ 10) where
    text_length : length text ≡ 28
    text_length =
        let last_long : length last ≡ 11 = omega (arith, length-append C (line_feed ∷ []), ten) in
        let mean_long : length from_mean ≡ 21 = omega (arith, length-append B (space ∷ last), nine, last_long) in
        let index_long : length from_index ≡ 24 = omega (arith, length-append A (space ∷ from_mean), two, mean_long) in
        ap length from_front ∙ omega (arith, length-append name (space ∷ from_index), three, index_long)

    weight_at : columns 18 27 text ≡ C
    weight_at = ap (take 10) from_weight ∙ take_at C (line_feed ∷ []) 10 ten

    end_at : columns 28 28 text ≡ line_feed ∷ []
    end_at = ap (take 1) (sym (drop-drop 10 17 text) ∙ ap (drop 10) from_weight ∙ drop_at C (line_feed ∷ []) 10 ten)

two_columns : (n : ℕ) → n < 100 → length (aligned 2 (decimal n)) ≡ 2
two_columns n h = aligned_length 2 (decimal n) (decimal_length 1 more_digits n (omega (arith, h)))

nine_columns : (z : ℤ) → nat_abs z < 10 ^ 8 → length (aligned 9 (signed_decimal z)) ≡ 9
nine_columns z h = aligned_length 9 (signed_decimal z) (signed_length 7 z h)

ten_columns : (n : ℕ) → n < 10 ^ 10 → length (aligned 10 (decimal n)) ≡ 10
ten_columns n h = aligned_length 10 (decimal n) (decimal_length 9 more_digits n h)

pub three_columns : (p : Part) → length (name_of p) ≡ 3
unfolding name_of ascii tab_from
three_columns (Φ j) = refl
three_columns (Ψ j) = refl

pub line_fits : {p : Part} {mean : ℤ} {own : ℕ} → InColumns p mean own → LineFits p mean own
unfolding page_line signed_decimal
line_fits {p} {mean} {own} h =
    let name = name_of p in
    let A = aligned 2 (decimal (index_of p)) in
    let B = aligned 9 (signed_decimal mean) in
    let C = aligned 10 (decimal own) in
    let three = three_columns p in
    let two = two_columns (index_of p) (omega (arith, h.index_to)) in
    let nine = nine_columns mean (omega (arith, h.mean_to)) in
    let ten = ten_columns own (omega (arith, h.own_to)) in
    let index = index_at name A B C three two nine in
    let ticks = mean_at_lem name A B C three two nine in
    let weight = weight_at name A B C three two nine ten in
    record {
      bytes = text_length name A B C three two nine ten;
      name = name_at name A B C three two nine;
      index = index;
      ticks = ticks;
      weight = weight;
      index_read = ap read_number index ∙ aligned_read 2 (pos (index_of p)) (omega (arith, h.index_to));
      ticks_read = ap read_number ticks ∙ aligned_read 9 mean (omega (arith, h.mean_to));
      weight_read = ap read_number weight ∙ aligned_read 10 (pos own) (omega (arith, h.own_to));
      spaces = spaces_at name A B C three two nine;
      end = end_at name A B C three two nine ten;
    }

-- ---- a page

index_small : (J k : ℕ) → J ≤ year_limit → k < parts J → index_of (part_by_index J k) < 100
unfolding part_by_index index_of
index_small J k years below = by_kind (leb k J)
  where
    by_kind : (b : Bool) → index_of (cond b (Φ k) (Ψ (k - (J + 1)))) < 100
    by_kind true = omega arith
    by_kind false = omega arith

module _ (J : ℕ) (μ : List ℤ) (D : List ℕ) where
  line_of : ℕ → Bytes
  line_of k = page_line (part_by_index J k) (part μ k) (get_or D k 0)

  pub in_columns : PageInColumns J μ D → (k : ℕ) → k < parts J → InColumns (part_by_index J k) (part μ k) (get_or D k 0)
  in_columns h k below = record {
    index_to = index_small J k h.years below;
    mean_to = omega (arith, h.means k below);
    own_to = h.weights k below;
  }

  pub page_fits : PageInColumns J μ D → PageFits J μ D
  unfolding line_of
  page_fits h =
      let fits : (k : ℕ) → k < parts J → LineFits (part_by_index J k) (part μ k) (get_or D k 0) = λ k below. line_fits (in_columns h k below) in
      let wide : (k : ℕ) → k < parts J → length (line_of k) ≡ 28 = λ k below. (fits k below).bytes in
      record { bytes = lines_length line_of 28 (parts J) wide; line = line_at line_of 28 (parts J) wide; fits = fits }

-- only the parts count
pub page_cong : (J : ℕ) (μ ν : List ℤ) (D E : List ℕ) → ((k : ℕ) → k < parts J → part μ k ≡ part ν k)
    → ((k : ℕ) → k < parts J → get_or D k 0 ≡ get_or E k 0) → page_of J μ D ≡ page_of J ν E
page_cong J μ ν D E means weights =
    lines_same _ _ (parts J) (λ k below. ap₂ (page_line (part_by_index J k)) (means k below) (weights k below))

-- every value of an accepted file, whatever is struck of it, and of a mean inside the limits fits its columns
pub file_page_fits : (f : StruckFile) → Admitted f → (μ : List ℤ)
    → ((k : ℕ) → k < parts (last_year f.file) → nat_abs (part μ k) ≤ part_limit) → PageFits (last_year f.file) μ (figures_left f).own
unfolding figures_from
file_page_fits f admitted μ inside =
    page_fits (last_year f.file) μ (figures_left f).own (record {
      years = (accepted_file f.file admitted.taken).years.to;
      means = inside;
      weights = λ k below.
          let weight = tab_at (parts (last_year f.file)) (own (chain_left f)) k 0 below in
          omega (arith, weight, (chain_limits (chain_left f) (struck_chain f admitted).0).own_to k below);
    })

-- ---- two different means never share a page

name_from : (p : Part) → From space (name_of p)
unfolding name_of ascii tab_from From
name_from (Φ j) = (omega arith, (omega arith, (omega arith, tt)))
name_from (Ψ j) = (omega arith, (omega arith, (omega arith, tt)))

page_line_ends : (p : Part) (mean : ℤ) (own : ℕ) → Line (page_line p mean own)
unfolding page_line From decimal_from signed_decimal
page_line_ends p mean own =
    let A = aligned 2 (decimal (index_of p)) in
    let B = aligned 9 (signed_decimal mean) in
    let C = aligned 10 (decimal own) in
    let spaced : (t : Bytes) → From space t → From space (space ∷ t) = λ t h. (omega arith, h) in
    line_behind (name_of p ++ space ∷ A ++ space ∷ B ++ space ∷ C)
    (from_append space (name_of p ++ space ∷ A ++ space ∷ B) (space ∷ C)
    (from_append space (name_of p ++ space ∷ A) (space ∷ B)
    (from_append space (name_of p) (space ∷ A) (name_from p) (spaced A (aligned_from 2 (pos (index_of p)))))
    (spaced B (aligned_from 9 mean)))
    (spaced C (aligned_from 10 (pos own))))
    ended

-- the mean is read back, however wide the own weight is
ticks_back : (p : Part) (mean : ℤ) (own : ℕ) → index_of p < 100 → nat_abs mean ≤ part_limit
    → read_number (columns 8 16 (page_line p mean own)) ≡ some mean
unfolding page_line
ticks_back p mean own index_to mean_to =
    ap read_number (mean_at_lem (name_of p) (aligned 2 (decimal (index_of p))) (aligned 9 (signed_decimal mean)) (aligned 10 (decimal own))
    (three_columns p) (two_columns (index_of p) index_to) (nine_columns mean (omega (arith, mean_to))))
    ∙ aligned_read 9 mean (omega (arith, mean_to))

same_some : {x y : ℤ} → some x ≡ some y → x ≡ y
same_some e = cc

-- From equal pages of means inside the limits, equal J and equal means follow, whatever the own weights.
pub page_injective : (J K : ℕ) (μ ν : List ℤ) (D E : List ℕ) → J ≤ year_limit → K ≤ year_limit
    → ((k : ℕ) → k < parts J → nat_abs (part μ k) ≤ part_limit) → ((k : ℕ) → k < parts K → nat_abs (part ν k) ≤ part_limit)
    → length μ ≡ parts J → length ν ≡ parts K → page_of J μ D ≡ page_of K ν E → (J ≡ K) × (μ ≡ ν)
page_injective J K μ ν D E J-to K-to μ-to ν-to μ-long ν-long e =
    let same = same_lines _ _ (parts J) (parts K)
    (λ k below. page_line_ends (part_by_index J k) (part μ k) (get_or D k 0)) (λ k below. page_line_ends (part_by_index K k) (part ν k) (get_or E k 0)) e in
    let years : J ≡ K = omega (arith, same.0) in (
      years,
      ext_get_or (pos 0) μ ν (omega (arith, μ-long, ν-long, years)) (λ k h.
          let below : k < parts J = omega (arith, μ-long) in
          let below_too : k < parts K = omega (arith, years, below) in
          same_some
          (sym (ticks_back (part_by_index J k) (part μ k) (get_or D k 0) (index_small J k J-to below) (μ-to k below))
          ∙ ap (λ line. read_number (columns 8 16 line)) (same.1 k below)
          ∙ ticks_back (part_by_index K k) (part ν k) (get_or E k 0) (index_small K k K-to below_too) (ν-to k below_too))),
    )
