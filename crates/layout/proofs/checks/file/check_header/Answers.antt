use Rattle.std.proofs.Common.{sym}
use Rattle.layout.specs.CheckLaws.{whole}
use Rattle.layout.proofs.checks.file.check_header.Goals as goal

pub check_figures-requires : goal.check_figures-requires
check_figures-requires c = whole c.args.s.now (sym c.in_ok-check_3.ensures) (sym c.in_ok-check_4.ensures)
