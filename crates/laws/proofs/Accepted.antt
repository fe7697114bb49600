-- What an accepted file is known to hold, field by field.
use Rattle.std.specs.Prelude.{ℕ, ◌*◌, ◌^◌, ◌<◌, ◌≡◌, Bool, true, false, ◌||◌, nat_abs, length, T, leb, eqb}
use Rattle.std.proofs.Common.{zero-le, inl, inr, arith, leb→le, eqb→eq}
use Rattle.std.proofs.Math.Facts.{and_yes}
use Rattle.definitions.specs.Words.{within}
use Rattle.definitions.specs.Layout.{Bytes, last_year, closeness, parts, cells, variance_of, prior_mean, prior_variance}
use Rattle.definitions.specs.Layout.{amount, paid, incurred, file_length, paid_at, variance_at, prior_variance_at, prior_mean_at, amount_at}
use Rattle.definitions.specs.Refusals.{unless, fields, file_check, is_clear, accepted}
use Rattle.definitions.specs.Refusals.{check1, check2, check3, check4, check5, check6, check7, check8, check9, check10}
use Rattle.definitions.specs.Refusals.{year_limit, closeness_limit, amount_limit, part_limit, good_prior_variance}
use Rattle.laws.proofs.ClearChecks.{then_clear, unless_clear, fields_clear}
use Rattle.laws.specs.Accepted.{AcceptedFile, PriorVariance, Within}

pub within_yes : (lo hi v : ℕ) → T (within lo hi v) → Within lo hi v
within_yes lo hi v t =
    let both = and_yes (leb lo v) (leb v hi) t in record { from = leb→le lo v both.0; to = leb→le v hi both.1 }

within_clear : (lo hi v number place : ℕ) → is_clear (unless (within lo hi v) number place) ≡ true → Within lo hi v
within_clear lo hi v number place h = within_yes lo hi v (unless_clear (within lo hi v) number place h)

equal_clear : (a b number place : ℕ) → is_clear (unless (eqb a b) number place) ≡ true → a ≡ b
equal_clear a b number place h = eqb→eq a b (unless_clear (eqb a b) number place h)

pub prior_yes : (v : ℕ) → T (good_prior_variance v) → PriorVariance v
prior_yes v t = by_first (eqb v 0) (eqb→eq v 0) t
  where
    by_first : (b : Bool) → (T b → v ≡ 0) → T (b || within (2 ^ 18) (2 ^ 46) v) → PriorVariance v
    by_first true none t = inl (none tt)
    by_first false none t = inr (within_yes (2 ^ 18) (2 ^ 46) v t)

-- the checks of one number over n fields
all_clear : (good : ℕ → Bool) (number : ℕ) (place_of : ℕ → ℕ) (n : ℕ) → is_clear (fields good number place_of 0 n) ≡ true
    → (k : ℕ) → k < n → T (good k)
all_clear good number place_of n h k below = fields_clear good number place_of 0 n h k zero-le (omega arith)

pub accepted_file : (f : Bytes) → accepted f ≡ true → AcceptedFile f
unfolding file_check check1 check2 check3 check4 check5 check6 check7 check8 check9 check10
accepted_file f h =
    let c1 = then_clear {a = check1 f} h in
    let c2 = then_clear {a = check2 f} c1.second in
    let c3 = then_clear {a = check3 f} c2.second in
    let c4 = then_clear {a = check4 f} c3.second in
    let c5 = then_clear {a = check5 f} c4.second in
    let c6 = then_clear {a = check6 f} c5.second in
    let c7 = then_clear {a = check7 f} c6.second in
    let c8 = then_clear {a = check8 f} c7.second in
    let c9 = then_clear {a = check9 f} c8.second in
    let J : ℕ = last_year f in
    record {
      years = within_clear 1 year_limit J 3 5 c3.first;
      size = equal_clear (length f) (file_length J) 4 0 c4.first;
      close = within_clear 1 closeness_limit (closeness f) 5 6 c5.first;
      variances = λ k below. within_yes (2 ^ 18) (2 ^ 40) (variance_of f k) (all_clear _ 6 variance_at (parts J) c6.first k below);
      prior_variances = λ k below. prior_yes (prior_variance f k) (all_clear _ 7 (prior_variance_at J) (parts J) c7.first k below);
      prior_means_lem = λ k below. leb→le (nat_abs (prior_mean f k)) part_limit (all_clear _ 8 (prior_mean_at J) (parts J) c8.first k below);
      amounts = λ c below. within_yes 1 amount_limit (amount f c) (all_clear _ 9 (amount_at J) (2 * cells J) c9.first c below);
      last_amounts = equal_clear (paid f 0 J) (incurred f 0 J) 10 (paid_at J 0 J) c9.second;
    }
