-- What opening a file that the checks let pass gives: its observations, figures that fit, and the prior means as mean.
use Rattle.std.specs.Prelude.{ℕ, ◌<◌, ◌≡◌, refl, List, ℤ, Ok}
use Rattle.std.proofs.Common.{sym, ap, subst, ◌∙◌, arith}
use Rattle.definitions.specs.Words.{part, tab_from}
use Rattle.definitions.specs.Layout.{Bytes, last_year, closeness, parts, prior_mean, amount}
use Rattle.definitions.specs.Refusals.{clear, file_check, is_clear}
use Rattle.definitions.specs.Observations.{chain_of}
use Rattle.definitions.specs.Matrix as D
use Rattle.definitions.specs.Strikes.{unstruck}
use Rattle.laws.specs.Accepted.{AcceptedFile}
use Rattle.laws.proofs.Accepted.{accepted_file}
use Rattle.laws.proofs.FileChain.{logarithm_limit}
use Rattle.laws.proofs.StruckFiles.{admitted}
use Rattle.laws.proofs.FileWeights.{part_to, prior_to, g_to}
use Rattle.laws.proofs.Tables.{tab_cong}
use Rattle.observations.specs.declared.Observations.{Observations}
use Rattle.observations.specs.Arrays.{observations_at}
use Rattle.observations.specs.Reading.{Observes}
use Rattle.observations.specs.Means.{OfMeans, PriorMeans}
use Rattle.observations.proofs.OfFile.{holds_chain, kept, none_kept}
use Rattle.chain.specs.declared.arrays.Figures.{Figures}
use Rattle.chain.specs.Arrays.{figures_at, figures_of, mean_of}
use Rattle.chain.specs.Fitting.{Fitting}
use Rattle.chain.proofs.AcceptedFits.{admitted_fits}
use Rattle.figures.specs.Gathered.{OfObservations, FiguresOf}
use Rattle.holding.specs.State.{Held, Fits}
use Rattle.opening.specs.Opens.{Opens}
use Rattle.opening.proofs.OpenLaws.{opens_done}

pub file_accepted : (file : Bytes) → file_check file ≡ clear → AcceptedFile file
file_accepted file passed = accepted_file file (ap is_clear passed)

module _ (f : Bytes) (passed : file_check f ≡ clear) {ticks : List ℤ} {weights variances struck : List ℕ}
    (o : Observes f ticks weights variances struck) where
  abbrev J : ℕ
  J = last_year f

  known : AcceptedFile f
  known = file_accepted f passed

  -- ---- what is asked of the observations

  pub of_means : OfMeans ticks J
  of_means = record {
    few = known.years.to;
    small = λ k below. rw (o.parts_are.all.means_are k below) (known.prior_means_lem k below);
  }

  pub of_observations : OfObservations ticks weights J
  of_observations = let read = o.parts_are.all in record {
    few = known.years.to;
    logs_small = λ c below.
        rw (read.logarithms.all.there c below) (omega (arith, logarithm_limit (amount f c) (known.amounts c below)));
    means_small = of_means.small;
    columns_small = λ k below. rw (read.weights_are k below) (part_to f known k below);
    priors_small = λ k below. rw (read.priors_are k below) (prior_to f known k below);
    ratios_small = λ d below. rw (o.ratios_are d below) (g_to f known d below);
  }

  -- ---- what is held afterwards

  module _ {own : List ℕ} {A b mean : List ℤ} (made : FiguresOf ticks weights struck J own A b) (priors : PriorMeans ticks J mean) where
    abbrev F : Figures
    F = figures_at J (closeness f) own A b

    abbrev after : Held
    after = record { figures = F; mean = mean; total = 0 }

    same : figures_of F ≡ D.figures_of f
    same = made.are (chain_of f) refl (holds_chain f known o) (closeness f)

    part_is : (k : ℕ) → k < parts J → part mean k ≡ prior_mean f k
    part_is k below = priors.filled.front k below ∙ o.parts_are.all.means_are k below

    after_fits : Fits after
    after_fits = record {
      holding = known.years.from;
      fitting = subst Fitting (sym same) (admitted_fits (unstruck f) (admitted f (ap is_clear passed)));
      inside = record { small = λ k below. rw (part_is k below) (known.prior_means_lem k below) };
      few = omega arith;
    }

    mean_is : mean_of J mean ≡ tab_from 0 (parts J) (prior_mean f)
    mean_is = tab_cong 0 (parts J) (λ k from below. part_is k (omega arith))

    pub done : (s : Held) (before : Observations) → ¬ Fits s
        → Opens s before f (Ok tt) after (observations_at ticks weights variances struck)
    done s before closed =
        opens_done s before f closed passed after (observations_at ticks weights variances struck) after_fits same
        (kept f known o) (none_kept f known o) mean_is refl
