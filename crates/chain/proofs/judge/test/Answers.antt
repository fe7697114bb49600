-- The test of residues. Shown: what is left to test from part k on gives the whole judgement, so that the first part that fails is the
-- definitions'. Assumes nothing.
use Rattle.std.proofs.Common.{◌≡◌, sym, ap, ◌∙◌, arith, nat_abs}
use Rattle.integers.specs.Bits.{same}
use Rattle.definitions.specs.Words.{part}
use Rattle.definitions.specs.Layout.{parts}
use Rattle.chain.specs.Judge.{test_next, test_fails, test_ends}
use Rattle.chain.proofs.judge.test.Goals as goal
use Rattle.chain.proofs.judge.test.Goals.{After-unsigned_abs}

-- the size of residue k
size_is : (c : After-unsigned_abs) → c.unsigned_abs.result ≡ nat_abs (part c.args.residues.now c.loop-k.k)
size_is c = c.unsigned_abs.ensures.value ∙ ap nat_abs (same (part c.args.residues.now c.loop-k.k) (omega arith))

pub loop-k-preserved : goal.loop-k-preserved
loop-k-preserved c =
    let size = size_is (goal.at.loop-k-preserved c).After-unsigned_abs in
    sym (test_next c.args.closeness c.args.own.now c.args.residues.now c.loop-k.k (parts c.args.last) (omega arith) size (omega arith))
    ∙ c.loop-k.invariant

pub returns-then-closeness-own : goal.returns-then-closeness-own
returns-then-closeness-own c =
    let size = size_is (goal.at.returns-then-closeness-own c).After-unsigned_abs in
    record {
      is = sym (test_fails c.args.closeness c.args.own.now c.args.residues.now c.loop-k.k (parts c.args.last) (omega arith) size (omega arith))
          ∙ c.loop-k.invariant;
    }

pub returns : goal.returns
returns c = record { is = sym (test_ends _ _ _ _ _ c.loop-k-test.false) ∙ c.loop-k.invariant }
