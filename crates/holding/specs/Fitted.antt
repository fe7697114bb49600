-- What the code tests is what the arithmetic needs.
use Rattle.std.specs.Prelude.{ℕ, ◌≤◌, ◌<◌, ◌≡◌, ℤ, ◌≤ℤ◌}
use Rattle.std.proofs.Common.{sym, ◌∙◌, arith}
use Rattle.std.proofs.Math.Path.{ap, subst}
use mathlib.Core.List.{List, []}
use Rattle.std.proofs.Math.IntN.{pos, nat_abs}
use Rattle.std.proofs.Math.ListN.{get_or}
use Rattle.integers.specs.Linear.{linear, zarith}
use Rattle.definitions.specs.Words.{tab_from, part}
use Rattle.definitions.specs.Layout.{parts}
use Rattle.definitions.specs.Matrix.{entry}
use Rattle.laws.proofs.Tables.{tab_at}
use Rattle.chain.specs.declared.arrays.Figures.{Figures}
use Rattle.chain.specs.Arrays.{figures_at, figures_of, cell}
use Rattle.chain.specs.Fitting.{Inside, entry_limit, diagonal_limit, own_limit, right_hand_limit}
use Rattle.chain.specs.Residues.{RowsFit, OfMean}
use Rattle.holding.specs.State.{Held, Fits, held_at}
use Rattle.holding.specs.Bounds.{FrameFits}

module _ (F : Figures) where
  own_at : (k : ℕ) → k < parts F.last → get_or (figures_of F).own k 0 ≡ get_or F.own k 0
  unfolding figures_of
  own_at k below = tab_at (parts F.last) (λ i. get_or F.own i 0) k 0 below

  pub entry_of : (k l : ℕ) → k < parts F.last → l < parts F.last → entry (figures_of F) k l ≡ cell F.matrix k l
  unfolding figures_of
  entry_of k l k-below l-below =
      ap (λ row. part row l) (tab_at (parts F.last) (λ i. tab_from 0 (parts F.last) (cell F.matrix i)) k [] k-below)
      ∙ tab_at (parts F.last) (cell F.matrix k) l (pos 0) l-below

  right_hand_at : (k : ℕ) → k < parts F.last → part (figures_of F).right_hand_side k ≡ part F.right_hand k
  unfolding figures_of
  right_hand_at k below = tab_at (parts F.last) (part F.right_hand) k (pos 0) below

-- the frame of a session
abbrev pub Framed : Held → Type 0
Framed s = let F = s.figures in FrameFits F.last F.closeness s.total F.own F.matrix F.right_hand s.mean

module _ {last closeness total : ℕ} {D : List ℕ} {A b μ : List ℤ} where
  pub asks_residues : FrameFits last closeness total D A b μ → {ν : List ℤ} → Inside (parts last) ν → OfMean last A b ν
  asks_residues h inside = record {
    years = h.years;
    inside = inside;
    diagonal = λ k below. between (h.parts_fit k below).diagonal_from (h.parts_fit k below).diagonal_to;
    right_hand = λ k below. (h.parts_fit k below).right_hand_to;
  }
    where
      between : {d : ℤ} → pos 1 ≤ℤ d → d ≤ℤ pos diagonal_limit → nat_abs d ≤ diagonal_limit
      between from to = simp linear (omega zarith)

  pub held_inside : FrameFits last closeness total D A b μ → Inside (parts last) μ
  held_inside h = record { small = λ k below. (h.parts_fit k below).mean_to }

  -- a session fits exactly if its frame and its rows do
  pub fits : FrameFits last closeness total D A b μ → RowsFit A (parts last) → Fits (held_at last closeness total D A b μ)
  unfolding figures_of
  fits h rows = let F = figures_at last closeness D A b in record {
    holding = h.holding;
    fitting = record {
      years = h.years;
      close = h.close;
      own_weights = λ k below. subst (λ n. n ≤ own_limit) (sym (own_at F k below)) (h.parts_fit k below).own_to;
      entries = λ k below l before. subst (λ z. nat_abs z ≤ entry_limit) (sym (entry_of F k l below (omega arith))) (rows k below l before);
      diagonal = λ k below. subst (λ z. pos 1 ≤ℤ z) (sym (entry_of F k k below below)) (h.parts_fit k below).diagonal_from;
      diagonal_to = λ k below. subst (λ z. z ≤ℤ pos diagonal_limit) (sym (entry_of F k k below below)) (h.parts_fit k below).diagonal_to;
      right_hand = λ k below. subst (λ z. nat_abs z ≤ right_hand_limit) (sym (right_hand_at F k below)) (h.parts_fit k below).right_hand_to;
    };
    inside = held_inside h;
    few = h.few;
  }

  module _ (h : Fits (held_at last closeness total D A b μ)) where
    pub frame : FrameFits last closeness total D A b μ
    unfolding figures_of
    frame = let F = figures_at last closeness D A b in record {
      holding = h.holding;
      years = h.fitting.years;
      close = h.fitting.close;
      few = h.few;
      parts_fit = λ k below. record {
        own_to = subst (λ n. n ≤ own_limit) (own_at F k below) (h.fitting.own_weights k below);
        diagonal_from = subst (λ z. pos 1 ≤ℤ z) (entry_of F k k below below) (h.fitting.diagonal k below);
        diagonal_to = subst (λ z. z ≤ℤ pos diagonal_limit) (entry_of F k k below below) (h.fitting.diagonal_to k below);
        right_hand_to = subst (λ z. nat_abs z ≤ right_hand_limit) (right_hand_at F k below) (h.fitting.right_hand k below);
        mean_to = h.inside.small k below;
      };
    }

    pub rows : RowsFit A (parts last)
    unfolding figures_of
    rows k below l before =
        let F = figures_at last closeness D A b in
        subst (λ z. nat_abs z ≤ entry_limit) (entry_of F k l below (omega arith)) (h.fitting.entries k below l before)
