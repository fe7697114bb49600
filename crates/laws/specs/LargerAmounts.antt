-- Document 02's amounts to 2^44. Number 9 stands here twice, side by side: by the test that it has, and by one that takes amounts to 2^40
-- alone. What the second lets through is let through alike; and the two part at amounts above 2^40 and up to 2^44, and nowhere else.
-- `PinnedAmounts` draws it once more.
use Rattle.std.specs.Prelude.{ℕ, ◌^◌, Bool}
use Rattle.definitions.specs.Words.{within}

-- the test that takes no larger amount than 2^40
abbrev pub lower_limit : ℕ
lower_limit = 2 ^ 40

abbrev pub small : ℕ → Bool
small a = within 1 lower_limit a
