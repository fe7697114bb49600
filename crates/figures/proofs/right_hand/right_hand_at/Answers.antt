-- `figures::right_hand::right_hand_at` meets its contract: no product and no sum wraps, and the sign of what is shared is the part's.
use Prim.Native.Nat.{ℕ, ◌^◌, ◌≤◌, ◌<◌}
use mathlib.Core.Path.{◌≡◌, refl, ap, ap₂, ◌∙◌}
use mathlib.Core.List.{List}
use native.Mathlib.Omega.{arith}
use lib.IntN.{ℤ, pos, nat_abs, ◌+ℤ◌, ◌-ℤ◌, ◌*ℤ◌}
use mir.Syntax.{w64}
use mir.Val.{to_z}
use mir.Facts.{to_z_pos}
use Rattle.integers.specs.Size.{fits, kept, nat_abs-+, nat_abs--, nat_abs-*-≤}
use Rattle.definitions.specs.Words.{part}
use Rattle.definitions.specs.Matrix.{part_by_index}
use Rattle.laws.specs.Ranks.{rank_of}
use Rattle.laws.proofs.Ranks.{rank_below}
use Rattle.integers.specs.Bits.{stored, read}
use Rattle.observations.specs.Arrays.{at, mean_at, prior_at}
use Rattle.figures.specs.SumLaws.{target_phi, target_psi}
use Rattle.figures.proofs.right_hand.right_hand_at.Goals as goal
use Rattle.figures.proofs.right_hand.right_hand_at.Goals.{After-rank_of, Start}

-- sizes, and what is read, at part k
module _ (s : Start) where
  abbrev k : ℕ
  k = s.args.k

  abbrev prior_weight : ℕ
  prior_weight = prior_at s.args.weights.now k

  abbrev mean : ℤ
  mean = mean_at s.args.ticks.now k

  abbrev weight : ℕ
  weight = at s.args.weights.now k

  abbrev column_total : ℤ
  column_total = part s.args.sums.now k

  prior_small : prior_weight ≤ 2 ^ 28
  prior_small = s.requires.of_targets.priors_small k s.requires.below

  mean_small : nat_abs mean ≤ 2 ^ 26
  mean_small = s.requires.of_targets.means_small k s.requires.below

  column_small : weight ≤ 2 ^ 28
  column_small = s.requires.of_targets.columns_small k s.requires.below

  total_small : nat_abs column_total ≤ 2 ^ 31
  total_small = s.requires.of_targets.sums_small k s.requires.below

  prior : to_z w64 prior_weight *ℤ stored mean ≡ pos prior_weight *ℤ mean
  prior = ap₂ ◌*ℤ◌ (to_z_pos w64 (omega (arith, prior_small))) (read mean (omega (arith, mean_small)))

  column : to_z w64 weight *ℤ stored column_total ≡ pos weight *ℤ column_total
  column = ap₂ ◌*ℤ◌ (to_z_pos w64 (omega (arith, column_small))) (read column_total (omega (arith, total_small)))

  prior_product : nat_abs (pos prior_weight *ℤ mean) ≤ 2 ^ 54
  prior_product = nat_abs-*-≤ (pos prior_weight) mean prior_small mean_small

  column_product : nat_abs (pos weight *ℤ column_total) ≤ 2 ^ 59
  column_product = nat_abs-*-≤ (pos weight) column_total column_small total_small

  abbrev own_sum_lem : ℤ
  own_sum_lem = pos prior_weight *ℤ mean +ℤ pos weight *ℤ column_total

  own_small : nat_abs own_sum_lem ≤ 2 ^ 60
  own_small = omega (arith, prior_product, column_product, nat_abs-+ (pos prior_weight *ℤ mean) (pos weight *ℤ column_total))

  -- the part's own sum, as it is stored
  abbrev own_sum : ℤ
  own_sum = stored (to_z w64 prior_weight *ℤ stored mean) +ℤ stored (to_z w64 weight *ℤ stored column_total)

  own : own_sum ≡ own_sum_lem
  own = ap₂ ◌+ℤ◌ (kept w64 prior (omega (arith, prior_product))) (kept w64 column (omega (arith, column_product)))

  own_kept : stored own_sum ≡ own_sum_lem
  own_kept = kept w64 own (omega (arith, own_small))

-- and with what it shares
module _ (c : After-rank_of) where
  abbrev start : Start
  start = (goal.at.offset_bounds-ratios-rank_of c).Start

  abbrev J : ℕ
  J = c.args.last

  abbrev rank : ℕ
  rank = rank_of (part_by_index J (k start))

  abbrev ratios : List ℤ
  ratios = c.args.ratios.now

  in_years : rank ≤ J
  in_years = rank_below J (k start) c.requires.below

  rank_small : c.rank_of.result ≤ J
  rank_small = omega (arith, c.rank_of.ensures, in_years)

  ratio_small : nat_abs (part ratios rank) ≤ 2 ^ 58
  ratio_small = c.requires.of_targets.ratios_small rank in_years

  ratio : stored (part ratios c.rank_of.result) ≡ part ratios rank
  ratio = ap (λ n. stored (part ratios n)) c.rank_of.ensures ∙ read (part ratios rank) (omega (arith, ratio_small))

  -- of a Φ
  added : stored (own_sum start) +ℤ stored (part ratios c.rank_of.result) ≡ own_sum_lem start +ℤ part ratios rank
  added = ap₂ ◌+ℤ◌ (own_kept start) ratio

  added_small : nat_abs (own_sum_lem start +ℤ part ratios rank) < 2 ^ 63
  added_small = omega (arith, own_small start, ratio_small, nat_abs-+ (own_sum_lem start) (part ratios rank))

  -- of a Ψ
  subtracted : stored (own_sum start) -ℤ stored (part ratios c.rank_of.result) ≡ own_sum_lem start -ℤ part ratios rank
  subtracted = ap₂ ◌-ℤ◌ (own_kept start) ratio

  subtracted_small : nat_abs (own_sum_lem start -ℤ part ratios rank) < 2 ^ 63
  subtracted_small = omega (arith, own_small start, ratio_small, nat_abs-- (own_sum_lem start) (part ratios rank))

pub overflow_cast-prior : goal.overflow_cast-prior
overflow_cast-prior c = fits refl (omega (arith, prior_small (goal.at.overflow_cast-prior c).Start))

pub overflow_mul-prior : goal.overflow_mul-prior
overflow_mul-prior c =
    let start = (goal.at.overflow_mul-prior c).Start in
    fits (prior start) (omega (arith, prior_product start))

pub overflow_cast-own : goal.overflow_cast-own
overflow_cast-own c = fits refl (omega (arith, column_small (goal.at.overflow_cast-own c).Start))

pub overflow_mul-own : goal.overflow_mul-own
overflow_mul-own c =
    let start = (goal.at.overflow_mul-own c).Start in
    fits (column start) (omega (arith, column_product start))

pub overflow_add-own : goal.overflow_add-own
overflow_add-own c =
    let start = (goal.at.overflow_add-own c).Start in
    fits (own start) (omega (arith, own_small start))

pub offset_bounds-ratios-rank_of : goal.offset_bounds-ratios-rank_of
offset_bounds-ratios-rank_of c = omega (arith, rank_small c, c.requires.of_targets.few)

pub bounds-ratios-rank_of : goal.bounds-ratios-rank_of
bounds-ratios-rank_of c = omega (arith, rank_small c, c.requires.of_targets.few)

pub overflow_add-result : goal.overflow_add-result
overflow_add-result c =
    let after_rank_of = (goal.at.overflow_add-result c).After-rank_of in
    fits (added after_rank_of) (added_small after_rank_of)

pub returns-then-k-last : goal.returns-then-k-last
returns-then-k-last c =
    let after_rank_of = (goal.at.returns-then-k-last c).After-rank_of in
    kept w64 (added after_rank_of) (added_small after_rank_of) ∙ target_phi _ _ _ _ _ _ c.if-k-last.true

pub overflow_sub-result : goal.overflow_sub-result
overflow_sub-result c =
    let after_rank_of = (goal.at.overflow_sub-result c).After-rank_of in
    fits (subtracted after_rank_of) (subtracted_small after_rank_of)

pub returns-else-k-last : goal.returns-else-k-last
returns-else-k-last c =
    let after_rank_of = (goal.at.returns-else-k-last c).After-rank_of in
    kept w64 (subtracted after_rank_of) (subtracted_small after_rank_of) ∙ target_psi _ _ _ _ _ _ c.if-k-last.false
