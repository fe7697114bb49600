-- The files, means and calls that the joint table speaks of.
use Rattle.std.specs.Prelude.{ℕ, ◌+◌, List, [], ◌∷◌, ◌++◌, ℤ, pos, negsuc, replicate, get_or}
use Rattle.definitions.specs.Words.{tab_from, part}
use Rattle.definitions.specs.Layout.{Bytes, record_of}
use Rattle.definitions.specs.Observations.{Chain, chain_of}
use Rattle.definitions.specs.Matrix.{Figures, figures_of, residue}
use Rattle.definitions.specs.Strikes.{Step, step, StruckFile, unstruck, chain_left, figures_left}
use Rattle.definitions.specs.Ultimate.{Latest, latest_of, Ultimate}
use Rattle.definitions.specs.Residues.{observed_residues}
use Rattle.definitions.specs.Machine.{Answer, State, empty, holds, map_state, Outcome, the_file, open_call, page_call, ultimate_call, strike_call}
use Rattle.definitions.specs.Machine.{residues_call}

-- ---- File F, byte by byte, with closeness e: J = 1, σ² and τ² all 2^30, prior variances 2^46, prior means 10T, T, −T

abbrev pub 2^30_in_8 : Bytes
2^30_in_8 = 0 ∷ 0 ∷ 0 ∷ 0 ∷ 64 ∷ 0 ∷ 0 ∷ 0 ∷ []

abbrev pub 2^46_in_8 : Bytes
2^46_in_8 = 0 ∷ 0 ∷ 64 ∷ 0 ∷ 0 ∷ 0 ∷ 0 ∷ 0 ∷ []

abbrev pub 0_in_8 : Bytes
0_in_8 = 0 ∷ 0 ∷ 0 ∷ 0 ∷ 0 ∷ 0 ∷ 0 ∷ 0 ∷ []

abbrev pub 1_in_8 : Bytes
1_in_8 = 0 ∷ 0 ∷ 0 ∷ 0 ∷ 0 ∷ 0 ∷ 0 ∷ 1 ∷ []

-- one below 2^18, and one above 2^46
abbrev pub below_2^18_in_8 : Bytes
below_2^18_in_8 = 0 ∷ 0 ∷ 0 ∷ 0 ∷ 0 ∷ 3 ∷ 255 ∷ 255 ∷ []

abbrev pub above_2^46_in_8 : Bytes
above_2^46_in_8 = 0 ∷ 0 ∷ 64 ∷ 0 ∷ 0 ∷ 0 ∷ 0 ∷ 1 ∷ []

-- 2^44, and one above it
abbrev pub 2^44_in_8 : Bytes
2^44_in_8 = 0 ∷ 0 ∷ 16 ∷ 0 ∷ 0 ∷ 0 ∷ 0 ∷ 0 ∷ []

abbrev pub above_2^44_in_8 : Bytes
above_2^44_in_8 = 0 ∷ 0 ∷ 16 ∷ 0 ∷ 0 ∷ 0 ∷ 0 ∷ 1 ∷ []

-- 256·b, for the amounts
abbrev pub amount_in_8 : ℕ → Bytes
amount_in_8 b = 0 ∷ 0 ∷ 0 ∷ 0 ∷ 0 ∷ 0 ∷ b ∷ 0 ∷ []

-- all that stands before the amounts; the first prior mean and the prior variances are left open
abbrev pub before : ℕ → (m₀ v₀ v₁ v₂ : Bytes) → Bytes
before e m₀ v₀ v₁ v₂ =
    (0 ∷ 0 ∷ 0 ∷ 118 ∷ 1 ∷ 1 ∷ 0 ∷ 0 ∷ 0 ∷ e ∷ [])
    ++ 2^30_in_8 ++ 2^30_in_8 ++ 2^30_in_8
    ++ m₀ ++ v₀
    ++ (0 ∷ 16 ∷ 0 ∷ 0 ∷ []) ++ v₁
    ++ (255 ∷ 240 ∷ 0 ∷ 0 ∷ []) ++ v₂

-- paid 2^10, 2^11 / 2^10; incurred 2^12, 2^11 / 2^12
abbrev pub file_of : ℕ → (m₀ v₀ v₁ v₂ : Bytes) → Bytes
file_of e m₀ v₀ v₁ v₂ =
    before e m₀ v₀ v₁ v₂
    ++ amount_in_8 4 ++ amount_in_8 8 ++ amount_in_8 4
    ++ amount_in_8 16 ++ amount_in_8 8 ++ amount_in_8 16

abbrev pub 10T_in_4 : Bytes
10T_in_4 = 0 ∷ 160 ∷ 0 ∷ 0 ∷ []

abbrev pub file_F : ℕ → Bytes
file_F e = file_of e 10T_in_4 2^46_in_8 2^46_in_8 2^46_in_8

-- F without priors
abbrev pub flat_F : Bytes
flat_F = file_of 1 10T_in_4 0_in_8 0_in_8 0_in_8

-- the same with the first prior mean at 2^26 + b
abbrev pub flat_from : ℕ → Bytes
flat_from b = file_of 1 (4 ∷ 0 ∷ 0 ∷ b ∷ []) 0_in_8 0_in_8 0_in_8

-- F with other amounts, paid p₀, e / p₁ and incurred i₀, e / i₁: year 0 ends with the same one
abbrev pub amounts_F : (p₀ e p₁ i₀ i₁ : Bytes) → Bytes
amounts_F p₀ e p₁ i₀ i₁ = before 1 10T_in_4 2^46_in_8 2^46_in_8 2^46_in_8 ++ p₀ ++ e ++ p₁ ++ i₀ ++ e ++ i₁

-- what is held once it is open, its figures in the place of the file
abbrev pub opened_from : ℕ → State Figures
opened_from b = map_state figures_left (open_call the_file empty (flat_from b)).state

abbrev pub F : Figures
F = figures_of (file_F 1)

abbrev pub weights : Chain
weights = chain_of (file_F 1)

-- (10T + a, T + b, −T)
abbrev pub mean : ℕ → ℕ → List ℤ
mean a b = pos (10485760 + a) ∷ pos (1048576 + b) ∷ negsuc 1048575 ∷ []

abbrev pub residues : List ℤ → List ℤ
residues μ = tab_from 0 3 (residue F (part μ))

-- the call `page`, lent so many bytes
abbrev pub page_of_F : State Figures → ℕ → Outcome Figures
page_of_F st size = page_call (λ G. G) st (replicate size 165)

abbrev pub ticks : ℤ → ℕ → ℕ → Ultimate
ticks floor remainder divisor = record { floor = floor; remainder = remainder; divisor = divisor }

-- the call `ultimate`
abbrev pub ultimate_of_F : State Bytes → ℕ → Answer
ultimate_of_F = ultimate_call figures_of latest_of

-- J = 2, every number another: the latest logarithms of years 1 and 2, and the variances
abbrev pub small_latest : Latest
small_latest = record {
  log_paid = part (pos 1000 ∷ pos 11 ∷ pos 17 ∷ []);
  log_incurred = part (pos 2000 ∷ pos 13 ∷ pos 19 ∷ []);
  variance_Φ = λ m. get_or (1 ∷ 2 ∷ 3 ∷ []) m 0;
  variance_Ψ = λ n. get_or (5 ∷ 7 ∷ []) n 0;
}

-- Φ_0, Φ_1, Φ_2, Ψ_0, Ψ_1
abbrev pub small_mean : List ℤ
small_mean = pos 100 ∷ pos 20 ∷ negsuc 29 ∷ pos 4 ∷ negsuc 49 ∷ []

abbrev pub five : Bytes → Bytes
five b = b ++ b ++ b ++ b ++ b

-- a file with J = 2 and e = 256: σ² and τ² all 2^30, no priors, every amount 1
abbrev pub three_years : Bytes
three_years =
    (0 ∷ 0 ∷ 0 ∷ 206 ∷ 1 ∷ 2 ∷ 0 ∷ 0 ∷ 1 ∷ 0 ∷ [])
    ++ five 2^30_in_8
    ++ five ((0 ∷ 0 ∷ 0 ∷ 0 ∷ []) ++ 0_in_8)
    ++ five 1_in_8 ++ five 1_in_8 ++ 1_in_8 ++ 1_in_8

abbrev pub ultimate_of_three : ℕ → Answer
ultimate_of_three = ultimate_of_F (holds three_years (pos 0 ∷ pos 1 ∷ pos 2 ∷ pos 3 ∷ pos 4 ∷ []) 0)

-- ---- files with struck steps

abbrev pub struck_from : Bytes → List Step → StruckFile
struck_from f steps = record { file = f; struck = steps }

-- F without x_(0,0)
abbrev pub struck_F : StruckFile
struck_F = struck_from (file_F 1) (step 0 0 0 ∷ [])

-- F with paid 1, 2^44 / 2^44, so that x_(0,0) is 0 and x_(1,0) is 44T, without one step
abbrev pub apart_F : Step → StruckFile
apart_F s = struck_from (amounts_F 1_in_8 2^44_in_8 2^44_in_8 2^44_in_8 2^44_in_8) (s ∷ [])

abbrev pub own_of_three : List Step → List ℕ
own_of_three steps = (figures_left (struck_from three_years steps)).own

-- the call `strike`, on a file with the mean (10T + 2, T, −T) and 7 sweeps
abbrev pub strike_of : StruckFile → Step → Outcome StruckFile
strike_of f = strike_call the_file (holds f (mean 2 0) 7)

-- ---- residues by observations

abbrev pub observed_for : StruckFile → List ℤ → List ℤ
observed_for f μ = observed_residues (chain_left f) (part μ)

-- the call `residues` on F, with the mean (10T + 2, T, −T) and 7 sweeps, of a record and lent so many bytes
abbrev pub residues_of_F : Bytes → ℕ → Outcome StruckFile
residues_of_F r size = residues_call chain_left (holds (unstruck (file_F 1)) (mean 2 0) 7) r (replicate size 165)

-- the record of (10T, T + 1, −T), and others with another length, another version, that and another J's length, another J and two parts
-- above 2^26
abbrev pub record_F : Bytes
record_F = record_of 1 (mean 0 1)

abbrev pub longer_F : Bytes
longer_F = record_F ++ 0 ∷ []

abbrev pub versioned_F : Bytes
versioned_F = (0 ∷ 0 ∷ 0 ∷ 17 ∷ 2 ∷ []) ++ replicate 12 127

abbrev pub longer_versioned_F : Bytes
longer_versioned_F = (0 ∷ 0 ∷ 0 ∷ 25 ∷ 2 ∷ []) ++ replicate 20 127

abbrev pub record_of_three : Bytes
record_of_three = record_of 2 (pos 67108865 ∷ pos 1 ∷ pos 2 ∷ pos 3 ∷ pos 4 ∷ [])

abbrev pub above_F : Bytes
above_F = record_of 1 (pos 0 ∷ pos 67108865 ∷ negsuc 67108864 ∷ [])
