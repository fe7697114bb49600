-- The test of residues. Shown: what is left to test from part k on gives the whole judgement, so that the first part that fails is the
-- definitions'. Assumes nothing.
use Rattle.std.specs.Prelude.{◌-◌, ◌≡◌}
use Rattle.definitions.specs.Layout.{parts}
use Rattle.chain.specs.Judge.{test_from}
use Rattle.chain.proofs.judge.test.Given as goal

abbrev pub invariant-loop-k : goal.invariant-loop-k
invariant-loop-k l =
    test_from l.closeness l.own l.residues l.k (parts l.last - l.k) ≡ test_from l.closeness l.own l.residues 0 (parts l.last)
