-- The contract of figures. The machine has no such call: what is shown of its state is defined here.
use Rattle.std.specs.Prelude.{ℕ, ◌+◌, ◌*◌, ◌/◌, ◌%◌, ◌<◌, ◌≡◌, List, ℤ, pos, get_or, replicate, Result, Ok, Err, IsOkAnd, MatchResult}
use Rattle.definitions.specs.Words.{part, tab_from}
use Rattle.definitions.specs.Layout.{last_year, closeness, parts}
use Rattle.definitions.specs.Matrix as D
use Rattle.definitions.specs.Matrix.{entry}
use Rattle.definitions.specs.Strikes.{StruckFile, chain_left}
use Rattle.definitions.specs.Machine.{State, empty, holds}
use Rattle.layout.specs.declared.refusals.Reason.TheVariants.{NothingOpen}
use Rattle.layout.specs.declared.refusals.Refusal.{Refusal}
use Rattle.chain.specs.declared.arrays.Figures.{Figures}
use Rattle.holding.specs.State.{Held, state_of, HoldsFile}

-- Each array has 0 behind its parts; row k, column l of the matrix is at 31·k + l.
abbrev pub in_arrays : D.Figures → Figures
in_arrays F = record {
  last = F.last;
  closeness = F.closeness;
  own = tab_from 0 31 (λ k. get_or F.own k 0);
  matrix = tab_from 0 961 (λ c. entry F (c / 31) (c % 31));
  right_hand = tab_from 0 31 (part F.right_hand_side);
}

unfoldable pub shows_to : State D.Figures → Result Figures Refusal
shows_to empty = Err (record { reason = NothingOpen; place = 0 })
shows_to (holds F μ total) = Ok (in_arrays F)

-- the figures of a file, part by part
pub record FiguresOf (f : StruckFile) (F : Figures) : Type 0 where
  pub last : F.last ≡ last_year f.file
  pub close : F.closeness ≡ closeness f.file
  pub own : (k : ℕ) → k < parts (last_year f.file) → get_or F.own k 0 ≡ D.own (chain_left f) k
  pub matrix : (k l : ℕ) → k < parts (last_year f.file) → l < parts (last_year f.file)
      → part F.matrix (31 * k + l) ≡ D.matrix (chain_left f) k l
  pub right_hand : (k : ℕ) → k < parts (last_year f.file) → part F.right_hand k ≡ D.right_hand_side (chain_left f) k

pub record Shows (s : Held) (r : Result Figures Refusal) : Type 0 where
  pub shown : r ≡ shows_to (state_of s)
  -- the very figures that judge the means of an open file
  pub of_file : (f : StruckFile) (μ : List ℤ) (total : ℕ) → HoldsFile s f μ total → IsOkAnd r (λ F. FiguresOf f F)

-- ---- in a place that is lent, which has them afterwards

abbrev pub no_figures : Figures
no_figures = record {
  last = 0;
  closeness = 0;
  own = replicate 31 0;
  matrix = replicate 961 (pos 0);
  right_hand = replicate 31 (pos 0);
}

abbrev pub Puts : Held → Result Unit Refusal → Figures → Type 0
Puts s r F = MatchResult r (λ _. Shows s (Ok F)) (λ e. Shows s (Err e) × (F ≡ no_figures))
