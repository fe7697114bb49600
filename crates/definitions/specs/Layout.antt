-- Specification, "The file" and "The mean record": big-endian fields and their places.
use Rattle.std.specs.Prelude.{ℕ, zero, suc, ◌+◌, ◌*◌, ◌-◌, ◌/◌, ◌%◌, ◌^◌, cond, List, [], ◌∷◌, ◌++◌, take, drop, ℤ, pos, negsuc, ◌-ℤ◌, ltb}
use Rattle.integers.specs.Summation.{total}
use Rattle.definitions.specs.Words.{tab_from, part}

abbrev pub Bytes : Type 0
Bytes = List ℕ

-- ---- fields

-- the number that the bytes stand for behind the digits of a, first byte highest
unfoldable pub big_endian : ℕ → Bytes → ℕ
big_endian a [] = a
big_endian a (x ∷ xs) = big_endian (a * 256 + x) xs

-- the unsigned field of so many bytes at a place
unfoldable pub unsigned : ℕ → ℕ → Bytes → ℕ
unsigned width at s = big_endian 0 (take width (drop at s))

-- a 4-byte number read in two's complement
unfoldable pub twos_complement : ℕ → ℤ
twos_complement v = cond (ltb v (2 ^ 31)) (pos v) (pos v -ℤ pos (2 ^ 32))

abbrev pub signed : ℕ → Bytes → ℤ
signed at s = twos_complement (unsigned 4 at s)

-- ---- the file: bytes 0 to 3 length, 4 version, 5 J, 6 to 9 closeness

abbrev pub length_word : Bytes → ℕ
length_word s = unsigned 4 0 s

abbrev pub version : Bytes → ℕ
version s = unsigned 1 4 s

-- J, the last development year
abbrev pub last_year : Bytes → ℕ
last_year s = unsigned 1 5 s

-- e
abbrev pub closeness : Bytes → ℕ
closeness s = unsigned 4 6 s

-- parts, and variances, and priors: 2J + 1 of each, those of Φ_0..Φ_J (σ²) first, then those of Ψ_0..Ψ_(J−1) (τ²)
abbrev pub parts : ℕ → ℕ
parts J = 2 * J + 1

-- the part, variance or prior of Ψ_j stands behind those of Φ_0..Φ_J
abbrev pub psi_index : ℕ → ℕ → ℕ
psi_index J j = J + 1 + j

abbrev pub variance_at : ℕ → ℕ
variance_at k = 10 + 8 * k

abbrev pub prior_mean_at : ℕ → ℕ → ℕ
prior_mean_at J k = 10 + 8 * parts J + 12 * k

abbrev pub prior_variance_at : ℕ → ℕ → ℕ
prior_variance_at J k = prior_mean_at J k + 4

-- cells of a block before the row of accident year i: year r has columns 0..J−r
unfoldable pub row_start : ℕ → ℕ → ℕ
row_start J i = total i (λ r. J + 1 - r)

abbrev pub cells : ℕ → ℕ
cells J = (J + 1) * (J + 2) / 2

-- amount number c of the two blocks, paid block first
abbrev pub amount_at : ℕ → ℕ → ℕ
amount_at J c = 10 + 20 * parts J + 8 * c

abbrev pub paid_at : ℕ → ℕ → ℕ → ℕ
paid_at J i j = amount_at J (row_start J i + j)

abbrev pub incurred_at : ℕ → ℕ → ℕ → ℕ
incurred_at J i j = amount_at J (cells J + (row_start J i + j))

abbrev pub file_length : ℕ → ℕ
file_length J = 10 + 20 * parts J + 8 * (J + 1) * (J + 2)

-- ---- the figures of a file

abbrev pub variance_of : Bytes → ℕ → ℕ
variance_of s k = unsigned 8 (variance_at k) s

abbrev pub prior_mean : Bytes → ℕ → ℤ
prior_mean s k = signed (prior_mean_at (last_year s) k) s

abbrev pub prior_variance : Bytes → ℕ → ℕ
prior_variance s k = unsigned 8 (prior_variance_at (last_year s) k) s

abbrev pub amount : Bytes → ℕ → ℕ
amount s c = unsigned 8 (amount_at (last_year s) c) s

-- P_(i,j) and I_(i,j)
abbrev pub paid : Bytes → ℕ → ℕ → ℕ
paid s i j = unsigned 8 (paid_at (last_year s) i j) s

abbrev pub incurred : Bytes → ℕ → ℕ → ℕ
incurred s i j = unsigned 8 (incurred_at (last_year s) i j) s

-- the row of a year in the paid block (channel 0) or in the incurred block (1): its first byte, how many it has, and its bytes
abbrev pub row_at : ℕ → ℕ → ℕ → ℕ
row_at J channel year = amount_at J (channel * cells J + row_start J year)

abbrev pub row_length : ℕ → ℕ → ℕ
row_length J year = 8 * (J + 1 - year)

abbrev pub row_bytes : Bytes → ℕ → ℕ → Bytes
row_bytes s channel year = take (row_length (last_year s) year) (drop (row_at (last_year s) channel year) s)

-- ---- the mean record: 4-byte length, version byte 1, 2J + 1 signed 4-byte parts

abbrev pub record_length : ℕ → ℕ
record_length J = 5 + 4 * parts J

abbrev pub part_at : ℕ → ℕ
part_at k = 5 + 4 * k

-- the mean that a record holds
abbrev pub mean_of : ℕ → Bytes → List ℤ
mean_of J r = tab_from 0 (parts J) (λ k. signed (part_at k) r)

-- so many bytes of a number, first byte highest
unfoldable pub bytes_of : ℕ → ℕ → Bytes
bytes_of zero v = []
bytes_of (suc n) v = bytes_of n (v / 256) ++ v % 256 ∷ []

-- a whole number as the 4-byte number that two's complement writes for it
unfoldable pub four_bytes : ℤ → ℕ
four_bytes (pos n) = n
four_bytes (negsuc n) = 2 ^ 32 - suc n

unfoldable pub part_bytes : ℕ → ℕ → List ℤ → Bytes
part_bytes k zero μ = []
part_bytes k (suc n) μ = bytes_of 4 (four_bytes (part μ k)) ++ part_bytes (suc k) n μ

-- the record of a mean
abbrev pub record_of : ℕ → List ℤ → Bytes
record_of J μ = bytes_of 4 (record_length J) ++ 1 ∷ part_bytes 0 (parts J) μ

-- a whole number as the number that two's complement writes for it in so many bytes
unfoldable pub complement : ℕ → ℤ → ℕ
complement width (pos n) = n
complement width (negsuc n) = 256 ^ width - suc n

-- n numbers of a list from number k on, each in so many bytes
unfoldable pub number_bytes : ℕ → ℕ → ℕ → List ℤ → Bytes
number_bytes width k zero v = []
number_bytes width k (suc n) v = bytes_of width (complement width (part v k)) ++ number_bytes width (suc k) n v
