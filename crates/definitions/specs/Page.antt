-- Specification, "The page": the settled mean as boards have it in their minutes, a line for each part.
use Rattle.std.specs.Prelude.{ℕ, ◌+◌, ◌*◌, ◌-◌, ◌<◌, ◌≡◌, List, [], ◌∷◌, ◌++◌, ℤ, pos, length, take, drop, get_or}
use Rattle.std.proofs.Math.Option.{some}
use Rattle.definitions.specs.Words.{part}
use Rattle.definitions.specs.Layout.{Bytes, parts}
use Rattle.definitions.specs.Matrix.{Part, part_by_index}
use Rattle.definitions.specs.Text.{space, line_feed, decimal, signed_decimal, aligned, read_number, name_of, index_of, lines}

-- Columns 1 to 3 the name, 5 to 6 the index, 8 to 16 the mean in ticks, 18 to 27 the own weight; spaces elsewhere, then a line feed.
unfoldable pub page_line : Part → ℤ → ℕ → Bytes
page_line p mean own =
    name_of p
    ++ space ∷ aligned 2 (decimal (index_of p))
    ++ space ∷ aligned 9 (signed_decimal mean)
    ++ space ∷ aligned 10 (decimal own)
    ++ line_feed ∷ []

-- 2J + 1 lines, Φ first
abbrev pub page_of : ℕ → List ℤ → List ℕ → Bytes
page_of J μ D = lines (λ k. page_line (part_by_index J k) (part μ k) (get_or D k 0)) (parts J)

-- 28 bytes a line
abbrev pub page_length : ℕ → ℕ
page_length J = 28 * parts J

-- ---- what it is to fit: shown of every accepted file and every mean inside the limits

-- columns `from` to `to` of a line, counted from 1
abbrev pub columns : ℕ → ℕ → Bytes → Bytes
columns from to line = take (to + 1 - from) (drop (from - 1) line)

-- The columns of a line: each number's has all of its digits, so that reading it gives the number.
pub record LineFits (p : Part) (mean : ℤ) (own : ℕ) : Type 0 where
  pub bytes : length (page_line p mean own) ≡ 28
  pub name : columns 1 3 (page_line p mean own) ≡ name_of p
  pub index : columns 5 6 (page_line p mean own) ≡ aligned 2 (decimal (index_of p))
  pub ticks : columns 8 16 (page_line p mean own) ≡ aligned 9 (signed_decimal mean)
  pub weight : columns 18 27 (page_line p mean own) ≡ aligned 10 (decimal own)
  pub index_read : read_number (columns 5 6 (page_line p mean own)) ≡ some (pos (index_of p))
  pub ticks_read : read_number (columns 8 16 (page_line p mean own)) ≡ some mean
  pub weight_read : read_number (columns 18 27 (page_line p mean own)) ≡ some (pos own)
  pub spaces : (columns 4 4 (page_line p mean own) ≡ space ∷ []) × (columns 7 7 (page_line p mean own) ≡ space ∷ [])
      × (columns 17 17 (page_line p mean own) ≡ space ∷ [])
  pub end : columns 28 28 (page_line p mean own) ≡ line_feed ∷ []

-- 28 bytes a line, each line in its place and with its columns
pub record PageFits (J : ℕ) (μ : List ℤ) (D : List ℕ) : Type 0 where
  pub bytes : length (page_of J μ D) ≡ 28 * (2 * J + 1)
  pub line : (k : ℕ) → k < parts J → take 28 (drop (28 * k) (page_of J μ D)) ≡ page_line (part_by_index J k) (part μ k) (get_or D k 0)
  pub fits : (k : ℕ) → k < parts J → LineFits (part_by_index J k) (part μ k) (get_or D k 0)
