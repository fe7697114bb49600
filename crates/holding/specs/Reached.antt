-- A session that the calls reach is never turned away by the test of the bounds.
use Rattle.std.specs.Prelude.{ℕ, ◌<◌, ◌≡◌, List, ℤ, pos}
use Rattle.std.proofs.Common.{sym, subst, ◌∙◌, arith}
use Rattle.std.proofs.Math.Path.{ap}
use Rattle.definitions.specs.Words.{part}
use Rattle.definitions.specs.Layout.{parts, last_year}
use Rattle.definitions.specs.Matrix as D
use Rattle.definitions.specs.Strikes.{StruckFile, Admitted, figures_left}
use Rattle.definitions.specs.Machine.{empty, holds, Call}
use Rattle.laws.proofs.Accepted.{accepted_file}
use Rattle.laws.proofs.Tables.{tab_at}
use Rattle.laws.specs.ReachedStates.{after}
use Rattle.laws.proofs.ReachedStates.{Good, reached_good}
use Rattle.chain.specs.Arrays.{figures_of, mean_of}
use Rattle.chain.specs.Fitting.{Fitting}
use Rattle.chain.proofs.AcceptedFits.{admitted_fits}
use Rattle.holding.specs.State.{Held, Fits}

-- what a session keeps of a file, a mean and a total
pub record Keeps (s : Held) (f : StruckFile) (μ : List ℤ) (total : ℕ) : Type 0 where
  pub figures : figures_of s.figures ≡ figures_left f
  pub mean : mean_of s.figures.last s.mean ≡ μ
  pub count : s.total ≡ total

module _ (s : Held) (f : StruckFile) (μ : List ℤ) (total : ℕ) (keeps : Keeps s f μ total) where
  same_year : s.figures.last ≡ last_year f.file
  unfolding figures_of D.figures_from
  same_year = ap (λ F. F.last) keeps.figures

  part_is : (k : ℕ) → k < parts s.figures.last → part s.mean k ≡ part μ k
  part_is k below = sym (tab_at (parts s.figures.last) (part s.mean) k (pos 0) below) ∙ ap (λ m. part m k) keeps.mean

  -- a good state fits
  pub good_fits : Good (holds f μ total) → Fits s
  good_fits g = record {
    holding = omega (arith, same_year, (accepted_file f.file g.0.taken).years.from);
    fitting = subst Fitting (sym keeps.figures) (admitted_fits f g.0);
    inside = record { small = λ k below. rw (part_is k below) (g.1.inside k) };
    few = omega (arith, keeps.count, g.2);
  }

-- every state that calls reach from the empty one is good, and so is not turned away
pub reached_fits : (calls : List Call) (f : StruckFile) (μ : List ℤ) (total : ℕ) → after empty calls ≡ holds f μ total
    → (s : Held) → Keeps s f μ total → Fits s
reached_fits calls f μ total e s keeps = good_fits s f μ total keeps (subst Good e (reached_good calls))

-- and its file is accepted, with a step left in each column
pub reached_admitted : (calls : List Call) (f : StruckFile) (μ : List ℤ) (total : ℕ) → after empty calls ≡ holds f μ total → Admitted f
reached_admitted calls f μ total e = (subst Good e (reached_good calls)).0
