-- `layout::checks::file::check_1` meets its contract: at least 10 bytes. Assumes nothing.
use Rattle.definitions.specs.Refusals.{check1}
use Rattle.layout.proofs.checks.file.check_1.Goals as goal

pub returns : goal.returns
unfolding check1
returns c = c.check_length.ensures
