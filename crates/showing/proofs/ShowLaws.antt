-- What is shown of a session, case by case. Each carries that the figures of an open file are the file's.
use Rattle.std.specs.Prelude.{ℕ, ◌+◌, ◌*◌, ◌/◌, ◌%◌, ◌≤◌, ◌<◌, ◌≡◌, refl, pos, Result, Ok, Err, IsOkAnd}
use Rattle.std.proofs.Common.{ap₂, ◌∙◌}
use Rattle.std.proofs.Math.Path.{ap}
use mathlib.Core.List.{[]}
use native.Mathlib.Omega.{arith}
use Rattle.std.proofs.Math.ListN.{get_or}
use Rattle.definitions.specs.Words.{tab_from, part}
use Rattle.definitions.specs.Layout.{last_year, parts}
use Rattle.definitions.specs.Refusals.{year_limit}
use Rattle.definitions.specs.Matrix as D
use Rattle.definitions.specs.Matrix.{entry}
use Rattle.definitions.specs.Strikes.{StruckFile, Admitted, chain_left, figures_left}
use Rattle.laws.proofs.Accepted.{accepted_file}
use Rattle.laws.proofs.Tables.{tab_at}
use Rattle.layout.specs.declared.refusals.Reason.TheVariants.{NothingOpen}
use Rattle.layout.specs.declared.refusals.Refusal.{Refusal}
use Rattle.chain.specs.declared.arrays.Figures.{Figures}
use Rattle.chain.specs.Arrays.{figures_at, figures_of}
use Rattle.holding.specs.State.{Held, Fits, state_of}
use Rattle.holding.proofs.StateLaws.{state_of_held, state_of_empty}
use Rattle.showing.specs.Shows.{in_arrays, shows_to, FiguresOf, Shows}
use Rattle.showing.specs.Shown.{own_shown, right_hand_shown, entry_shown, matrix_shown}
use Rattle.showing.specs.Mirrored.{row_of}

-- row k, column l
pub entry_at : (F : D.Figures) (k l : ℕ) → k < 31 → l < 31 → part (in_arrays F).matrix (31 * k + l) ≡ entry F k l
entry_at F k l k-below l-below =
    tab_at 961 (λ c. entry F (c / 31) (c % 31)) (31 * k + l) (pos 0) (omega arith) ∙ ap₂ (entry F) (row_of k l l-below) (column k l l-below)
  where
    column : (k l : ℕ) → l < 31 → (31 * k + l) % 31 ≡ l
    column k l h = omega arith

-- the arrays of a file's figures
module _ (f : StruckFile) (few : last_year f.file ≤ year_limit) where
  abbrev n : ℕ
  n = parts (last_year f.file)

  of_file : FiguresOf f (in_arrays (figures_left f))
  unfolding D.figures_from
  of_file = record {
    last = refl;
    close = refl;
    own = λ k below.
        tab_at 31 (λ i. get_or (tab_from 0 n (D.own (chain_left f))) i 0) k 0 (omega arith) ∙ tab_at n (D.own (chain_left f)) k 0 below;
    matrix = λ k l k-below l-below.
        entry_at (figures_left f) k l (omega arith) (omega arith)
        ∙ ap (λ r. part r l) (tab_at n (λ i. tab_from 0 n (D.matrix (chain_left f) i)) k [] k-below)
        ∙ tab_at n (D.matrix (chain_left f) k) l (pos 0) l-below;
    right_hand = λ k below.
        tab_at 31 (part (tab_from 0 n (D.right_hand_side (chain_left f)))) k (pos 0) (omega arith)
        ∙ tab_at n (D.right_hand_side (chain_left f)) k (pos 0) below;
  }

module _ (s : Held) where
  shows : (r : Result Figures Refusal) → r ≡ shows_to (state_of s) → Shows s r
  unfolding shows_to
  shows r e = record { shown = e; of_file = λ f μ total open-file. told f (e ∙ ap shows_to open-file.state) open-file.file }
    where
      told : (f : StruckFile) → r ≡ Ok (in_arrays (figures_left f)) → Admitted f → IsOkAnd r (λ F. FiguresOf f F)
      told f is good = rw is (of_file f (accepted_file f.file good.taken).years.to)

  -- what the code makes of the parts
  abbrev pub shown_of : ℕ → Figures
  shown_of n =
      figures_at s.figures.last s.figures.closeness
      (own_shown n s.figures.own) (matrix_shown n s.figures.matrix) (right_hand_shown n s.figures.right_hand)

  pub shows_open : Fits s → Shows s (Ok (shown_of (parts s.figures.last)))
  unfolding shows_to figures_of entry_shown
  shows_open h = shows _ (rw (state_of_held s h) refl)

  pub shows_closed : ¬ Fits s → Shows s (Err (record { reason = NothingOpen; place = 0 }))
  unfolding shows_to
  shows_closed h = shows _ (rw (state_of_empty s h) refl)
