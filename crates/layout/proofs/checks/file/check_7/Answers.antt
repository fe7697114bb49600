-- `layout::checks::file::check_7` meets its contract: the run's fields are the prior variances. Assumes nothing.
use mathlib.Core.Path.{◌≡◌, ap, ◌∙◌}
use Prim.Native.Nat.{ℕ, ◌+◌, ◌*◌}
use native.Mathlib.Omega.{arith}
use Rattle.definitions.specs.Layout.{parts, last_year, prior_variance_at}
use Rattle.definitions.specs.Refusals.{check7}
use Rattle.layout.specs.CheckLaws.{unsigned_run_lem}
use Rattle.layout.proofs.checks.file.check_7.Goals as goal

pub returns : goal.returns
unfolding check7
returns c =
    let s = c.args.s.now in
    let all = c.parts_of-count.ensures ∙ ap parts c.last_year.ensures in
    let places : (k : ℕ) → 14 + 8 * c.parts_of-count.result + 12 * k ≡ prior_variance_at (last_year s) k = λ k. omega arith in
    c.check_unsigned.ensures ∙ unsigned_run_lem s 7 _ places all _
