-- `bounds::frame_fits` meets its contract: its tests are the bounds of the frame.
use native.Mathlib.Omega.{arith}
use Rattle.chain.specs.Decides.{decided_no}
use Rattle.holding.proofs.bounds.frame_fits.Goals as goal

pub returns-then-last-lt1 : goal.returns-then-last-lt1
returns-then-last-lt1 c = decided_no (λ h. omega (arith, c.if-last-lt1.true, h.holding))

pub returns-then-last-gt15 : goal.returns-then-last-gt15
returns-then-last-gt15 c = decided_no (λ h. omega (arith, c.if-last-gt15.true, h.years))

pub returns-then-closeness-gt65536 : goal.returns-then-closeness-gt65536
returns-then-closeness-gt65536 c = decided_no (λ h. omega (arith, c.if-closeness-gt65536.true, h.close))

pub returns-then-total-gt4096 : goal.returns-then-total-gt4096
returns-then-total-gt4096 c = decided_no (λ h. omega (arith, c.if-total-gt4096.true, h.few))

pub returns : goal.returns
returns c = record {
  when_yes = λ e. record {
    holding = c.if-last-lt1.false;
    years = c.if-last-gt15.false;
    close = c.if-closeness-gt65536.false;
    few = c.if-total-gt4096.false;
    parts_fit = c.parts_fit.ensures.when_yes e;
  };
  when_no = λ e h. c.parts_fit.ensures.when_no e h.parts_fit;
}
