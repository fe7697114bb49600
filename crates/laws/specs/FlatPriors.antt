-- Document 02's files without a prior. Number 7 stands here twice, side by side: by the test that it has, and by one that asks a prior of
-- every part. What the second lets through is let through alike; the two part at a prior variance of 0 and nowhere else. And a part
-- without a prior rests on its own observations, of which it has at least one. `PinnedPriors` draws all of it once more.
use Rattle.std.specs.Prelude.{ℕ, ◌^◌, Bool}
use Rattle.definitions.specs.Words.{within}

-- the test that asks a prior of every part: 2^18 to 2^46, with no exception for 0
abbrev pub is_prior : ℕ → Bool
is_prior v = within (2 ^ 18) (2 ^ 46) v
