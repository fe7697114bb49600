-- `layout::checks::file::check_8` meets its contract: the run's fields are the prior means. Assumes nothing.
use mathlib.Core.Path.{◌≡◌, ap, ◌∙◌}
use Prim.Native.Nat.{ℕ, ◌+◌, ◌*◌}
use native.Mathlib.Omega.{arith}
use Rattle.definitions.specs.Layout.{parts, last_year, prior_mean_at}
use Rattle.definitions.specs.Refusals.{check8}
use Rattle.layout.specs.CheckLaws.{signed_run_lem}
use Rattle.layout.proofs.checks.file.check_8.Goals as goal

pub returns : goal.returns
unfolding check8
returns c =
    let s = c.args.s.now in
    let all = c.parts_of-count.ensures ∙ ap parts c.last_year.ensures in
    let places : (k : ℕ) → 10 + 8 * c.parts_of-count.result + 12 * k ≡ prior_mean_at (last_year s) k = λ k. omega arith in
    c.check_parts.ensures ∙ signed_run_lem s 8 _ places all
