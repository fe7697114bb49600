-- Number 16, which document 02 takes out. It stood for a zero on the diagonal of a file's matrix, behind 1 to 10, and no file that these
-- let through has one: each diagonal entry is positive, flat priors included. So open answers with 16 in its order as it does without,
-- and no call answers 16. All of it is said in plain numbers and with no law named.
use Rattle.std.specs.Prelude.{ℕ, zero, suc, ◌+◌, ◌*◌, ◌≤◌, ◌<◌, ◌≡◌, ◌≢◌, ◌⊎◌, ◌↔◌, not, [], eqb, ℤ, pos, negsuc, nat_abs, ◌<ℤ◌}
use Rattle.std.proofs.Common.{zero-le, subst, inl, inr, arith, ne_eqb}
use Rattle.std.proofs.Math.Path.{refl, ap}
use Rattle.std.proofs.Math.Bool.{true}
use Rattle.std.proofs.lemmas.Bool.{false≢true}
use Rattle.std.specs.Int.Signed.{<ℤ_irrefl}
use Rattle.integers.specs.Linear.{linear, zarith}
use Rattle.integers.specs.Sum.{sum, total}
use Rattle.definitions.specs.Layout.{Bytes, last_year, unsigned, big_endian}
use Rattle.definitions.specs.Weight.{weight}
use Rattle.definitions.specs.Refusals.{Check, clear, refuses, ◌then◌, fields, file_check, is_clear, accepted}
use Rattle.definitions.specs.Refusals.{check1, check2, check3, check4, check5, check6, check7, check8, check9, check10}
use Rattle.definitions.specs.Observations.{chain_of}
use Rattle.definitions.specs.Matrix.{part_by_index, own, matrix}
use Rattle.definitions.specs.Machine.{State, empty, holds, Keeping, Outcome, refused, Call, answers, open_unless, open_call, outcome}
use Rattle.laws.proofs.ClearChecks.{fields_good, fields_bad}
use Rattle.laws.proofs.Accepted.{accepted_file}
use Rattle.laws.proofs.StruckFiles.{file_chain}
use Rattle.laws.proofs.Diagonal.{diagonal_positive}
use Rattle.laws.proofs.Pinned.{in_table}

module _ (f : Bytes) where
  abbrev pub one_to_ten : Check
  one_to_ten =
      check1 f then check2 f then check3 f then check4 f then check5 f
      then check6 f then check7 f then check8 f then check9 f then check10 f

  pub accepted_exactly : (accepted f ≡ true) ↔ (one_to_ten ≡ clear)
  unfolding file_check
  accepted_exactly = (is_clear_lem one_to_ten, ap is_clear)
    where
      is_clear_lem : (c : Check) → is_clear c ≡ true → c ≡ clear
      is_clear_lem clear h = refl
      is_clear_lem (refuses number place) h = absurd (false≢true h)

  -- a file that they let through, whatever its priors
  pub positive : one_to_ten ≡ clear → (k : ℕ) → k < 2 * last_year f + 1 → pos 0 <ℤ matrix (chain_of f) k k
  unfolding file_check
  positive passed k below =
      let least = diagonal_positive (chain_of f) (file_chain f (accepted_file f (ap is_clear passed))).1 k below in
      simp linear (omega (zarith, simp linear at least))

  -- number 16: a diagonal entry that is zero, with place 0
  abbrev pub check16 : Check
  check16 = fields (λ k. not (eqb (nat_abs (matrix (chain_of f) k k)) 0)) 16 (λ k. 0) 0 (2 * last_year f + 1)

  pub zero_refused : (k : ℕ) → k < 2 * last_year f + 1 → matrix (chain_of f) k k ≡ pos 0 → check16 ≡ refuses 16 0
  zero_refused k below none = fields_bad _ 16 0 0 (2 * last_year f + 1) k zero-le (omega arith) (rw none refl)

  pub no_zero_clear : ((k : ℕ) → k < 2 * last_year f + 1 → matrix (chain_of f) k k ≢ pos 0) → check16 ≡ clear
  no_zero_clear some =
      fields_good _ 16 (λ k. 0) 0 (2 * last_year f + 1) (λ k from to. not_zero (matrix (chain_of f) k k) (some k (omega arith)))
    where
      not_zero : (z : ℤ) → z ≢ pos 0 → not (eqb (nat_abs z) 0) ≡ true
      not_zero (pos zero) some = absurd (some refl)
      not_zero (pos (suc n)) some = ap not (ne_eqb (suc n) 0 (λ none. omega arith))
      not_zero (negsuc n) some = ap not (ne_eqb (suc n) 0 (λ none. omega arith))

-- 16 did refuse: of bytes that are no file, for one
pub refuses_no_bytes : check16 [] ≡ refuses 16 0
unfolding unsigned big_endian weight sum total part_by_index own matrix
refuses_no_bytes = fields_bad _ 16 0 0 (2 * last_year [] + 1) 0 zero-le (omega arith) refl

-- for whatever is kept of a file: the file itself, as the specification's machine does, or arrays, as a session does
module _ (X : Type 0) (K : Keeping X) where
  -- open with 16 in its order: 22, then 1 to 10, then 16
  abbrev pub open_with16 : State X → Bytes → Outcome X
  open_with16 empty f = open_unless K (one_to_ten f then check16 f) f
  open_with16 (holds x μ total) f = answers (holds x μ total) (refused 22 0)

  -- answer, state and buffer are those of open, which does not have it
  pub alike_without_16 : (st : State X) (f : Bytes) → open_with16 st f ≡ open_call K st f
  unfolding open_call file_check
  alike_without_16 empty f = ap (λ check. open_unless K check f) same_check
    where
      same_check : one_to_ten f then check16 f ≡ one_to_ten f
      same_check = by_check (one_to_ten f) refl
        where
          by_check : (c : Check) → one_to_ten f ≡ c → c then check16 f ≡ c
          by_check clear e = no_zero_clear f (λ k below none. <ℤ_irrefl (subst (λ z. pos 0 <ℤ z) none (positive f e k below)))
          by_check (refuses number place) e = refl
  alike_without_16 (holds x μ total) f = refl

  pub never_16 : (st : State X) (call : Call) (place : ℕ) → (outcome K st call).answer ≢ refused 16 place
  never_16 st call place e = neither (in_table X K st call 16 place e)
    where
      neither : ((1 ≤ 16) × (16 ≤ 15)) ⊎ ((21 ≤ 16) × (16 ≤ 27)) → ⊥
      neither (inl h) = omega (arith, h.1)
      neither (inr h) = omega (arith, h.0)
