-- Parts by index. A part has a rank, Φ_j the rank j and Ψ_j the rank j + 1, and a sign, + for Φ and − for Ψ: it takes part in the ratio of
-- development year d exactly if d is below its rank. Off the diagonal the matrix is the product of two parts' signs times the sum of the
-- first g, as many as the smaller of their ranks.
use Rattle.std.specs.Prelude.{ℕ, ◌+◌, Bool, false, eqb, ℤ, pos, negsuc}
use Rattle.definitions.specs.Matrix.{Part, Φ, Ψ}

abbrev pub rank_of : Part → ℕ
rank_of (Φ j) = j
rank_of (Ψ j) = j + 1

abbrev pub sign_of : Part → ℤ
sign_of (Φ j) = pos 1
sign_of (Ψ j) = negsuc 0

abbrev pub same_part : Part → Part → Bool
same_part (Φ n) (Φ m) = eqb n m
same_part (Φ n) (Ψ m) = false
same_part (Ψ n) (Φ m) = false
same_part (Ψ n) (Ψ m) = eqb n m
