use Rattle.std.proofs.Common.{sym}
use Rattle.definitions.specs.Refusals.{check1}
use Rattle.layout.specs.CheckLaws.{length_least}
use Rattle.layout.proofs.checks.file.check_file.Goals as goal

pub check_header-requires : goal.check_header-requires
unfolding check1
check_header-requires c = length_least 10 c.args.s.now (sym c.in_ok-check_1.ensures)
