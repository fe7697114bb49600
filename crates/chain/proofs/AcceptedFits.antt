-- The figures of a bounded chain fit where each part has an own weight, and so do those of an accepted file, whatever steps are struck: no
-- sum wraps for a session that calls made.
use Rattle.std.specs.Prelude.{ℕ, ◌≤◌, ◌<◌, ◌≤ℤ◌}
use Rattle.std.proofs.Common.{sym, arith}
use Rattle.std.proofs.Math.Path.{ap, subst}
use Rattle.std.proofs.Math.IntN.{pos, nat_abs}
use Rattle.integers.specs.Linear.{linear}
use Rattle.definitions.specs.Layout.{closeness, parts}
use Rattle.definitions.specs.Observations.{Chain}
use Rattle.definitions.specs.Matrix.{own, matrix, right_hand_side, figures_from, entry}
use Rattle.definitions.specs.Refusals.{closeness_limit}
use Rattle.definitions.specs.Strikes.{StruckFile, Admitted, chain_left, figures_left}
use Rattle.laws.proofs.Accepted.{accepted_file}
use Rattle.laws.specs.Chains.{Bounded}
use Rattle.laws.proofs.Chains.{carried_owned}
use Rattle.laws.proofs.ChainLimits.{chain_limits, entry_fits, diagonal_fits, right_hand_fits}
use Rattle.laws.proofs.Diagonal.{diagonal_owned}
use Rattle.laws.proofs.StruckFiles.{struck_chain}
use Rattle.laws.proofs.Judged.{entry_of_chain}
use Rattle.laws.proofs.Tables.{tab_at}
use Rattle.chain.specs.Fitting.{Fitting, diagonal_limit, entry_limit}

module _ (c : Chain) (e : ℕ) (bounded : Bounded c) (owned : (k : ℕ) → k < parts c.last → 1 ≤ own c k) where
  abbrev count : ℕ
  count = parts c.last

  diagonal_at_most : (k : ℕ) → k < count → matrix c k k ≤ℤ pos diagonal_limit
  diagonal_at_most k below =
      let small : nat_abs (matrix c k k) ≤ diagonal_limit = omega (arith, diagonal_fits c bounded k below) in
      simp linear (omega (arith, simp linear at small))

  off_diagonal : (k : ℕ) → k < count → (l : ℕ) → l < k → nat_abs (entry (figures_from c e) k l) ≤ entry_limit
  off_diagonal k below l before =
      let small = entry_fits c bounded k l below (omega arith) (λ same. omega arith) in
      omega (arith, small, ap nat_abs (entry_of_chain c e k l below (omega arith)))

  pub chain_fits : e ≤ closeness_limit → Fitting (figures_from c e)
  unfolding figures_from
  chain_fits close = record {
    years = bounded.years;
    close = close;
    own_weights = λ k below. omega (arith, (chain_limits c bounded).own_to k below, tab_at count (own c) k 0 below);
    entries = off_diagonal;
    diagonal = λ k below. subst (λ a. pos 1 ≤ℤ a) (sym (entry_of_chain c e k k below below)) (diagonal_owned c k below (owned k below));
    diagonal_to = λ k below. subst (λ a. a ≤ℤ pos diagonal_limit) (sym (entry_of_chain c e k k below below)) (diagonal_at_most k below);
    right_hand = λ k below.
        let small = right_hand_fits c bounded k below in
        omega (arith, small, ap nat_abs (tab_at count (right_hand_side c) k (pos 0) below));
  }

pub admitted_fits : (f : StruckFile) → Admitted f → Fitting (figures_left f)
admitted_fits f h =
    let both = struck_chain f h in
    chain_fits (chain_left f) (closeness f.file) both.0 (carried_owned (chain_left f) both.1).owned
    (accepted_file f.file h.taken).close.to
