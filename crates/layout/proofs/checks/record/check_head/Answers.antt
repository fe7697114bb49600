use Rattle.std.proofs.Common.{sym}
use Rattle.layout.specs.CheckLaws.{length_least}
use Rattle.layout.proofs.checks.record.check_head.Goals as goal

pub check_version-requires : goal.check_version-requires
check_version-requires c = length_least 5 c.args.r.now (sym c.in_ok-check_length.ensures)
