-- `open_lent` meets its contract: after 22 and the checks of the file, its observations, its figures and the prior means are held.
use Rattle.std.proofs.Common.{Ok, Err, arith}
use Prim.Native.Nat.{ℕ}
use mathlib.Core.Path.{◌≡◌, sym, subst, subst₂}
use mathlib.Core.List.{List}
use borrow.Author.Rules.{rules}
use lib.IntN.{ℤ}
use Rattle.definitions.specs.Layout.{Bytes, last_year, closeness}
use Rattle.definitions.specs.Refusals.{clear, file_check}
use Rattle.layout.specs.CheckLaws.{file_whole}
use Rattle.observations.specs.declared.Observations.{Observations}
use Rattle.observations.specs.Arrays.{observations_at}
use Rattle.observations.specs.Means.{OfMeans, PriorMeans}
use Rattle.figures.specs.Gathered.{OfObservations, FiguresOf}
use Rattle.holding.specs.State.{Held, Fits, held_at, held_in}
use Rattle.opening.specs.Opens.{Opens}
use Rattle.opening.proofs.OpenLaws.{opens_taken, opens_refused}
use Rattle.opening.proofs.OpenCall.{file_accepted, of_means, of_observations, done}
use Rattle.opening.proofs.open_lent.Goals as goal
use Rattle.opening.proofs.open_lent.Goals.{After-last_year-last, After-observe, After-start_mean, Else-is_open, Start}

pub returns-then-is_open : goal.returns-then-is_open
returns-then-is_open c = rw c.at.ensures (opens_taken _ _ _ (c.is_open.ensures.when_yes c.if-is_open.true))

-- the session that is lent
abbrev S : Start → Held
S s = held_in s.args.held.now s.args.own.now s.args.matrix.now s.args.right_hand.now s.args.mean.now

pub check_file-requires : goal.check_file-requires
check_file-requires c = search rules

-- no file is open
closed : (c : Else-is_open) → ¬ Fits (S (goal.at.check_file-requires c).Start)
closed c = c.is_open.ensures.when_no c.if-is_open.false

pub returns-in_err-check_file : goal.returns-in_err-check_file
returns-in_err-check_file c =
    let refusal = c.in_err-check_file.field-0.0 in
    let handed : c.from_residual.result ≡ Err refusal = grind arith in
    rw handed (opens_refused _ _ _ (closed (goal.at.returns-in_err-check_file c).Else-is_open) refusal (sym c.in_err-check_file.ensures))

-- the file, whose checks are clear, and its J
module _ (c : After-last_year-last) where
  abbrev bytes : Bytes
  bytes = c.args.file.now

  clear_file : file_check bytes ≡ clear
  clear_file = sym c.in_ok-check_file.ensures

  year : c.last_year-last.result ≡ last_year bytes
  year = c.last_year-last.ensures

pub observe-requires : goal.observe-requires
observe-requires c =
    let after_last_year_last = (goal.at.observe-requires c).After-last_year-last in
    file_accepted (bytes after_last_year_last) (clear_file after_last_year_last)

-- what is observed
module _ (c : After-observe) where
  -- its checks
  cleared : file_check c.args.file.now ≡ clear
  cleared = sym c.in_ok-check_file.ensures

  abbrev ticks : List ℤ
  ticks = c.observe.new.ticks

  abbrev weights : List ℕ
  weights = c.observe.new.weights

  abbrev variances : List ℕ
  variances = c.observe.new.variances

  abbrev struck : List ℕ
  struck = c.observe.new.struck

  asked : OfObservations ticks weights c.last_year-last.result
  asked = subst (OfObservations ticks weights) (sym c.last_year-last.ensures) (of_observations c.args.file.now cleared c.observe.ensures)

  asked_means : OfMeans ticks c.last_year-last.result
  asked_means = subst (OfMeans ticks) (sym c.last_year-last.ensures) (of_means c.args.file.now cleared c.observe.ensures)

pub figures_in-requires : goal.figures_in-requires
figures_in-requires c = asked (goal.at.figures_in-requires c).After-observe

pub start_mean-requires : goal.start_mean-requires
start_mean-requires c = asked_means (goal.at.start_mean-requires c).After-observe

-- what is held
module _ (c : After-start_mean) where
  abbrev after_last_year_last : After-last_year-last
  after_last_year_last = (goal.at.closeness_of-requires c).After-last_year-last

  abbrev start : Start
  start = (goal.at.closeness_of-requires c).Start

  abbrev after_observe : After-observe
  after_observe = (goal.at.closeness_of-requires c).After-observe

  abbrev file : Bytes
  file = bytes after_last_year_last

  -- with J and the closeness
  abbrev after : ℕ → ℕ → Held
  after J e = let F = c.figures_in.new in held_at J e 0 F.own F.matrix F.right_hand c.start_mean.new.mean

  abbrev before : Observations
  before =
      let a = c.args in
      observations_at a.ticks.now a.weights.now a.variances.now a.struck.now

  opened : Opens (S start) before file (Ok tt) (after (last_year file) (closeness file))
      (observations_at (ticks after_observe) (weights after_observe) (variances after_observe) (struck after_observe))
  opened =
      let F = c.figures_in.new in
      done file (clear_file after_last_year_last) c.observe.ensures
      (subst (λ J. FiguresOf (ticks after_observe) (weights after_observe) (struck after_observe) J F.own F.matrix F.right_hand)
      (year after_last_year_last) c.figures_in.ensures)
      (subst (λ J. PriorMeans (ticks after_observe) J c.start_mean.new.mean) (year after_last_year_last) c.start_mean.ensures)
      (S start) before (closed (goal.at.closeness_of-requires c).Else-is_open)

pub closeness_of-requires : goal.closeness_of-requires
closeness_of-requires c = file_whole _ (clear_file (goal.at.closeness_of-requires c).After-last_year-last)

pub returns : goal.returns
returns c =
    let after_observe = (goal.at.returns c).After-observe in
    let after_start_mean = (goal.at.returns c).After-start_mean in
    subst₂ (λ J e. Opens (S (goal.at.returns c).Start) (before after_start_mean) (file after_start_mean) (Ok tt) (after after_start_mean J e)
    (observations_at (ticks after_observe) (weights after_observe) (variances after_observe) (struck after_observe)))
    (sym (year (goal.at.returns c).After-last_year-last)) (sym c.closeness_of.ensures) (opened after_start_mean)
