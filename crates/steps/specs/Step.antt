-- The contracts of a step.
use Rattle.std.specs.Prelude.{ℕ, ◌*◌, ◌^◌, ◌≤◌, ◌<◌, ◌≡◌, List, ℤ, nat_abs, ◌+ℤ◌, ◌*ℤ◌, length}
use Rattle.definitions.specs.Words.{part}
use Rattle.definitions.specs.Layout.{parts}
use Rattle.definitions.specs.Refusals.{year_limit, part_limit}
use Rattle.definitions.specs.Sweep.{step}
use Rattle.chain.specs.Arrays.{mean_of, cell}
use Rattle.chain.specs.Fitting.{Fitting, Inside, diagonal_limit}
use Rattle.steps.specs.declared.Working.{Working}
use Rattle.steps.specs.Working.{held}

-- ---- residues v of which part k of the mean changes by d

pub record Follows (last : ℕ) (A v : List ℤ) (k : ℕ) (d : ℤ) : Type 0 where
  pub years : last ≤ year_limit
  pub long : length v ≡ 31
  pub below : k < parts last
  pub column : (l : ℕ) → l < parts last → nat_abs (cell A l k) ≤ diagonal_limit
  pub change : nat_abs d ≤ 2 * part_limit
  pub sums : (l : ℕ) → l < parts last → nat_abs (part v l +ℤ cell A l k *ℤ d) < 2 ^ 63

pub record Followed (last : ℕ) (A v : List ℤ) (k : ℕ) (d : ℤ) (r : List ℤ) : Type 0 where
  pub at : (l : ℕ) → l < parts last → part r l ≡ part v l +ℤ cell A l k *ℤ d
  pub behind : (l : ℕ) → parts last ≤ l → part r l ≡ part v l

-- ---- a step of part k

pub record Steps (last : ℕ) (A : List ℤ) (w : Working) (k : ℕ) : Type 0 where
  pub fitting : Fitting (held last A w)
  pub inside : Inside (parts last) w.mean
  pub below : k < parts last

-- the residues stay those of the mean: the right-hand side of which they speak is the same
pub record Stepped (last : ℕ) (A : List ℤ) (w : Working) (k : ℕ) (r : Working) : Type 0 where
  pub mean : mean_of last r.mean ≡ step (held last A w) k (mean_of last w.mean)
  pub residues : held last A r ≡ held last A w
  pub inside : Inside (parts last) r.mean
