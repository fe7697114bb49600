-- `residues_of` meets its contract. The loop's invariant: the residues of the first k parts are there.
use Prim.Native.Nat.{ℕ, ◌≤◌, ◌<◌}
use mathlib.Core.Path.{◌≡◌, subst, ◌∙◌}
use mathlib.Core.List.{List, []}
use native.Mathlib.Omega.{arith}
use lib.IntN.{ℤ, pos}
use Rattle.integers.specs.Bits.{stored, same, read}
use Rattle.definitions.specs.Words.{part}
use Rattle.definitions.specs.Layout.{parts}
use Rattle.definitions.specs.Residues.{observed_times}
use Rattle.laws.proofs.Filled.{filled_none, filled_next, filled_to}
use Rattle.observations.specs.declared.Observations.{Observations}
use Rattle.observations.specs.Arrays.{observations_at}
use Rattle.differences.specs.Differences.{left_in, ResidueAt}
use Rattle.differences.proofs.DifferenceLaws.{ratios_small, residue_is}
use Rattle.differences.proofs.residues_of.Goals as goal
use Rattle.differences.proofs.residues_of.Goals.{After-residue_at, In-loop-k}

pub starts_of-requires : goal.starts_of-requires
starts_of-requires c = c.requires.few

pub ratios_missed-shared-requires : goal.ratios_missed-shared-requires
ratios_missed-shared-requires c = c.requires.small

pub loop-k-init : goal.loop-k-init
loop-k-init c = λ variances. filled_none 31 (pos 0) _

-- the next part
module _ (c : In-loop-k) where
  abbrev J : ℕ
  J = c.args.last

  abbrev mean : List ℤ
  mean = c.args.mean.now

  abbrev k : ℕ
  k = c.loop-k.k

  abbrev o : List ℕ → Observations
  o variances = observations_at c.args.ticks.now c.args.weights.now variances c.args.struck.now

  years : J ≤ 15
  years = c.requires.few

  below : k < parts J
  below = c.loop-k-test.true

  held : stored (part mean k) ≡ part mean k
  held = read (part mean k) (omega (arith, c.requires.small k below))

pub residue_at-requires : goal.residue_at-requires
residue_at-requires c =
    let in_loop_k = (goal.at.residue_at-requires c).In-loop-k in
    record {
      below = below in_loop_k;
      small = rw (held in_loop_k) (c.requires.small (k in_loop_k) (below in_loop_k));
      shared_small = λ n few.
          rw (c.ratios_missed-shared.ensures.are [] c.args.struck.now n few)
          (ratios_small (J in_loop_k) (o in_loop_k []) (years in_loop_k) (mean in_loop_k) c.requires.small n few);
    }

-- the residue of part k
residue : (c : After-residue_at) (variances : List ℕ)
    → stored c.residue_at.result
    ≡ observed_times (left_in (J (goal.at.loop-k-preserved c).In-loop-k) (o (goal.at.loop-k-preserved c).In-loop-k variances)) 1
    (part (mean (goal.at.loop-k-preserved c).In-loop-k)) (k (goal.at.loop-k-preserved c).In-loop-k)
residue c variances =
    let marks = c.args.struck.now in
    let shared = c.ratios_missed-shared.result in
    same _ c.residue_at.type_inv
    ∙ (subst (λ v. ResidueAt c.args.ticks.now c.args.weights.now marks shared (J (goal.at.loop-k-preserved c).In-loop-k)
    (k (goal.at.loop-k-preserved c).In-loop-k) v c.residue_at.result) (held (goal.at.loop-k-preserved c).In-loop-k)
    c.residue_at.ensures).is variances
    ∙ residue_is (J (goal.at.loop-k-preserved c).In-loop-k) (o (goal.at.loop-k-preserved c).In-loop-k variances)
    (mean (goal.at.loop-k-preserved c).In-loop-k) (k (goal.at.loop-k-preserved c).In-loop-k)
    (below (goal.at.loop-k-preserved c).In-loop-k) shared (λ n few. c.ratios_missed-shared.ensures.are variances marks n few)

pub loop-k-preserved : goal.loop-k-preserved
loop-k-preserved c =
    let in_loop_k = (goal.at.loop-k-preserved c).In-loop-k in
    λ variances. filled_next (c.loop-k.invariant variances) (omega (arith, below in_loop_k, years in_loop_k)) (residue c variances)

pub returns : goal.returns
returns c =
    let at = c.loop-k in
    let all : at.k ≡ parts c.args.last = omega arith in
    record { are = λ variances. filled_to all (at.invariant variances) }
