-- `desk_size` meets its contract: an element of the list, and none behind it.
use Rattle.std.proofs.Common.{sym}
use Rattle.desk.specs.Sizes.{none_behind}
use Rattle.desk.proofs.sizes.desk_size.Goals as goal

pub returns-then-array-ge9 : goal.returns-then-array-ge9
returns-then-array-ge9 c = sym (none_behind c.args.array c.if-array-ge9.true)
