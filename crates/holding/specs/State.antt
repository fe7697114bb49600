-- What a session holds, by value or in lent arrays, and the state that it stands for: an open file's figures with a mean and a total, or
-- nothing; and the same with the file's observations and struck steps beside the figures, which is all that a session keeps.
use Rattle.std.specs.Prelude.{ℕ, ◌≤◌, ◌≡◌, List, ℤ, pos, nat_abs, get_or}
use Rattle.std.proofs.Math.Decide.{dec_le, map_dec}
use Rattle.definitions.specs.Words.{part}
use Rattle.definitions.specs.Layout.{parts}
use Rattle.definitions.specs.Refusals.{year_limit, closeness_limit, part_limit}
use Rattle.definitions.specs.Matrix.{entry}
use Rattle.definitions.specs.Matrix as D
use Rattle.definitions.specs.Strikes.{StruckFile, Admitted, figures_left}
use Rattle.definitions.specs.Sweep.{sweep_limit}
use Rattle.definitions.specs.Machine.{State, empty, holds, map_state}
use Rattle.definitions.specs.Kept.{Kept}
use Rattle.observations.specs.declared.Observations.{Observations}
use Rattle.observations.specs.Arrays.{observed_in, struck_in}
use Rattle.chain.specs.declared.arrays.Figures.{Figures}
use Rattle.chain.specs.Arrays.{figures_at, figures_of, mean_of}
use Rattle.chain.specs.Fitting.{Fitting, Inside, entry_limit, diagonal_limit, own_limit, right_hand_limit}
use Rattle.holding.specs.Decided.{◌and◌, every, dec_le_Z}

-- figures, a mean and the sweeps run since open or the last strike: what judge, sweep and read are lent
pub record Held : Type 0 where
  pub figures : Figures
  pub mean : List ℤ
  pub total : ℕ

-- with the arrays and numbers one by one
abbrev pub held_at : ℕ → ℕ → ℕ → List ℕ → List ℤ → List ℤ → List ℤ → Held
held_at last closeness total own A b μ = record { figures = figures_at last closeness own A b; mean = μ; total = total }

-- with J, the closeness and the total in one array
abbrev pub held_in : List ℕ → List ℕ → List ℤ → List ℤ → List ℤ → Held
held_in held own A b μ = held_at (get_or held 0 0) (get_or held 1 0) (get_or held 2 0) own A b μ

-- something is held, and the figures, the mean and the total are inside the bounds that the arithmetic needs
pub record Fits (s : Held) : Type 0 where
  pub holding : 1 ≤ s.figures.last
  pub fitting : Fitting (figures_of s.figures)
  pub inside : Inside (parts s.figures.last) s.mean
  pub few : s.total ≤ sweep_limit

-- ---- whether it fits can be told

dec_fitting : (F : D.Figures) → Dec (Fitting F)
dec_fitting F = map_dec
    (λ (years, (close, (own, (entries, (diagonal, (diagonal_to, right_hand)))))). record {
      years = years;
      close = close;
      own_weights = own;
      entries = entries;
      diagonal = diagonal;
      diagonal_to = diagonal_to;
      right_hand = right_hand;
    })
    (λ h. (h.years, (h.close, (h.own_weights, (h.entries, (h.diagonal, (h.diagonal_to, h.right_hand)))))))
    (dec_le F.last year_limit and dec_le F.closeness closeness_limit
    and every (parts F.last) (λ k. dec_le (get_or F.own k 0) own_limit)
    and every (parts F.last) (λ k. every k (λ l. dec_le (nat_abs (entry F k l)) entry_limit))
    and every (parts F.last) (λ k. dec_le_Z (pos 1) (entry F k k))
    and every (parts F.last) (λ k. dec_le_Z (entry F k k) (pos diagonal_limit))
    and every (parts F.last) (λ k. dec_le (nat_abs (part F.right_hand_side k)) right_hand_limit))

pub dec_fits : (s : Held) → Dec (Fits s)
dec_fits s = map_dec
    (λ (holding, (fitting, (small, few))). record { holding = holding; fitting = fitting; inside = record { small = small }; few = few })
    (λ h. (h.holding, (h.fitting, (h.inside.small, h.few))))
    (dec_le 1 s.figures.last and dec_fitting (figures_of s.figures)
    and every (parts s.figures.last) (λ k. dec_le (nat_abs (part s.mean k)) part_limit)
    and dec_le s.total sweep_limit)

-- ---- its state

-- of what fits
abbrev pub state_held : Held → State D.Figures
state_held s = holds (figures_of s.figures) (mean_of s.figures.last s.mean) s.total

abbrev pub state_by : {P : Type 0} → Dec P → Held → State D.Figures
state_by (yes p) s = state_held s
state_by (no n) s = empty

-- what does not fit is nothing
unfoldable pub state_of : Held → State D.Figures
state_of s = state_by (dec_fits s) s

-- ---- the state of the whole session, which keeps observations beside what is held

-- as many of them as the figures' J says
abbrev pub kept_with : Observations → D.Figures → Kept
kept_with o F = record { figures = F; observed = observed_in F.last o; struck = struck_in F.last o }

abbrev pub session_state : Observations → Held → State Kept
session_state o s = map_state (kept_with o) (state_of s)

-- ---- an accepted file is open, with the steps that are struck, a mean and a total

pub record HoldsFile (s : Held) (f : StruckFile) (μ : List ℤ) (total : ℕ) : Type 0 where
  pub file : Admitted f
  pub state : state_of s ≡ holds (figures_left f) μ total
