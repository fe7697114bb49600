-- Laws of the definitions' checks: of one condition, of a field's limits, of one check and then the next, and of the fields of a number.
use Rattle.std.specs.Prelude.{ℕ, suc, ◌+◌, ◌-◌, ◌≤◌, ◌<◌, ◌≡◌, refl, Bool, true, false, not, ◌&&◌, length, leb, eqb}
use Rattle.std.proofs.Math.Path.{sym, ap, ap₂, fun_ext}
use Rattle.std.proofs.Common.{◌∙◌, le-leb, leb-true, eqb-true}
use Rattle.std.proofs.Math.Nat.{sub-zero}
use Rattle.std.proofs.Math.Numerals.{add-one}
use native.Mathlib.Omega.{arith}
use Rattle.std.proofs.lemmas.Bool.{lt-leb}
use Rattle.definitions.specs.Words.{within}
use Rattle.definitions.specs.Layout.{Bytes, unsigned, signed, length_word, version, last_year, parts, part_at, file_length, record_length}
use Rattle.definitions.specs.Refusals as refusals
use Rattle.definitions.specs.Refusals.{clear, refuses, unless, ◌then◌, fields, good_part, check1, check2, check3, check4, file_check, row_check, record_check}
use Rattle.layout.specs.declared.checks.Limits.{Limits}
use Rattle.layout.specs.declared.checks.Run.{Run}
use Rattle.layout.specs.Checks.{place_in, allowed, unsigned_run, signed_run, length_check, record_head, Whole}

-- ---- one condition

pub unless_holds : {b : Bool} (number place : ℕ) → b ≡ true → clear ≡ unless b number place
unless_holds number place e = rw e

pub unless_fails : {b : Bool} (number place : ℕ) → b ≡ false → refuses number place ≡ unless b number place
unless_fails number place e = rw e

and_false : (b : Bool) → b && false ≡ false
and_false true = refl
and_false false = refl

pub and_left : {a : Bool} (b : Bool) → a ≡ false → a && b ≡ false
and_left b e = rw e

pub and_right : (a : Bool) {b : Bool} → b ≡ false → a && b ≡ false
and_right a e = rw e (and_false a)

pub unless_clear : (b : Bool) (number place : ℕ) → unless b number place ≡ clear → b ≡ true
unless_clear true number place e = refl
unless_clear false number place e = cc

pub and_true : (a b : Bool) → a && b ≡ true → (a ≡ true) × (b ≡ true)
and_true true b e = (refl, e)
and_true false b e = (cc, cc)

-- of a test for being other than a value
pub not_true : (b : Bool) → not b ≡ true → b ≡ false
not_true true e = cc
not_true false e = refl

pub not_false : (b : Bool) → not b ≡ false → b ≡ true
not_false true e = refl
not_false false e = cc

-- a value v that was read, and so is u
pub within_yes : {low high v u : ℕ} → v ≡ u → low ≤ v → v ≤ high → within low high u ≡ true
within_yes {low} {high} {v} {u} e h k = rw (← e, le-leb low v h, le-leb v high k)

pub within_low : {low v u : ℕ} (high : ℕ) → v ≡ u → v < low → within low high u ≡ false
within_low {low} {v} high e h = rw (← e, lt-leb low v h)

pub within_high : (low : ℕ) {high v u : ℕ} → v ≡ u → high < v → within low high u ≡ false
within_high low {high} {v} e h = rw (← e) (and_right (leb low v) (lt-leb v high h))

pub within_bounds : (low high v : ℕ) → within low high v ≡ true → (low ≤ v) × (v ≤ high)
within_bounds low high v e = let b = and_true (leb low v) (leb v high) e in (leb-true low v b.0, leb-true v high b.1)

-- ---- one check, then the next

-- both were clear
pub then_clear : (x y : refusals.Check) → x then y ≡ clear → (x ≡ clear) × (y ≡ clear)
then_clear clear y e = (refl, e)
then_clear (refuses number place) y e = (cc, cc)

-- three checks, and then one more
then_assoc : (a b c d : refusals.Check) → (a then b then c) then d ≡ a then b then c then d
then_assoc clear clear c d = refl
then_assoc clear (refuses number place) c d = refl
then_assoc (refuses number place) b c d = refl

-- a record's checks are those of its head, and then 11
pub record_checks : (J : ℕ) (r : Bytes)
    → record_check J r ≡ record_head J r then fields (λ k. good_part (signed (part_at k) r)) 11 part_at 0 (parts J)
unfolding record_check record_head
record_checks J r = sym (then_assoc (length_check 5 r) (unless (eqb (version r) 1) 2 4) (unless (eqb (length r) (record_length J)) 4 0) _)

-- ---- the fields of a number, n of them, one after another

-- the fields from i on give what all of them give: what a loop over the fields keeps
pub record Left (good : ℕ → Bool) (number : ℕ) (place : ℕ → ℕ) (n i : ℕ) : Type 0 where
  pub same : fields good number place i (n - i) ≡ fields good number place 0 n
  pub some : i ≤ n

pub left_start : (good : ℕ → Bool) (number : ℕ) (place : ℕ → ℕ) (n : ℕ) → Left good number place n 0
left_start good number place n = record { same = ap (fields good number place 0) (sub-zero n); some = omega arith }

module _ {good : ℕ → Bool} {number : ℕ} {place : ℕ → ℕ} {n i : ℕ} (left : Left good number place n i) where
  pub left_none : n ≤ i → clear ≡ fields good number place 0 n
  unfolding fields
  left_none h =
      let e : n - i ≡ 0 = omega arith in
      ap (fields good number place i) (sym e) ∙ left.same

  module _ (h : i < n) where
    more : n - i ≡ suc (n - (i + 1))
    more = omega arith

    pub left_next : good i ≡ true → Left good number place n (i + 1)
    unfolding fields
    left_next e =
        let step : fields good number place i (n - i) ≡ fields good number place (i + 1) (n - (i + 1)) = rw (more, e, add-one i) in
        record { same = sym step ∙ left.same; some = omega arith }

    pub left_bad : good i ≡ false → refuses number (place i) ≡ fields good number place 0 n
    unfolding fields
    left_bad e =
        let step : fields good number place i (n - i) ≡ refuses number (place i) = rw (more, e) in
        sym step ∙ left.same

-- ---- a run of fields is the fields of a number, where its places are theirs

module _ (s : Bytes) (number : ℕ) (run : Run) {place : ℕ → ℕ} {n : ℕ}
    (places : (k : ℕ) → place_in run k ≡ place k) (all : run.count ≡ n) where
  pub unsigned_run_lem : (limits : Limits)
      → unsigned_run s number run limits ≡ fields (λ k. allowed limits (unsigned 8 (place k) s)) number place 0 n
  unfolding unsigned_run
  unsigned_run_lem limits = ap₂ (λ p m. fields (λ k. allowed limits (unsigned 8 (p k) s)) number p 0 m) (fun_ext places) all

  pub signed_run_lem : signed_run s number run ≡ fields (λ k. good_part (signed (place k) s)) number place 0 n
  unfolding signed_run
  signed_run_lem = ap₂ (λ p m. fields (λ k. good_part (signed (p k) s)) number p 0 m) (fun_ext places) all

-- ---- what the first checks have found

pub length_least : (least : ℕ) (s : Bytes) → length_check least s ≡ clear → least ≤ length s
length_least least s e =
    let enough = leb least (length s) in
    let right = eqb (length_word s) (length s) in
    leb-true least (length s) (and_true enough right (unless_clear (enough && right) 1 0 e)).0

pub whole : (s : Bytes) → check3 s ≡ clear → check4 s ≡ clear → Whole s
unfolding check3 check4
whole s e k =
    let years = within_bounds 1 15 (last_year s) (unless_clear (within 1 15 (last_year s)) 3 5 e) in
    record {
      low = years.0;
      high = years.1;
      whole = eqb-true (length s) (file_length (last_year s)) (unless_clear (eqb (length s) (file_length (last_year s))) 4 0 k);
    }

pub file_whole : (s : Bytes) → file_check s ≡ clear → Whole s
unfolding file_check
file_whole s e =
    let from2 = (then_clear (check1 s) _ e).1 in
    let from3 = (then_clear (check2 s) _ from2).1 in
    let from4 = then_clear (check3 s) _ from3 in
    whole s from4.0 (then_clear (check4 s) _ from4.1).0

-- a row that is shown: of such a file, of one of the two channels, of one of its years
pub record Shown (s : Bytes) (c y : ℕ) : Type 0 where
  pub file : Whole s
  pub channel : c ≤ 1
  pub year : y ≤ last_year s

pub row_shown : (s : Bytes) (channel year : ℕ) → row_check s channel year ≡ clear → Shown s channel year
unfolding row_check
row_shown s channel year e =
    let file = then_clear (file_check s) _ e in
    let rest = then_clear (unless (leb channel 1) 14 0) _ file.1 in
    record {
      file = file_whole s file.0;
      channel = leb-true channel 1 (unless_clear (leb channel 1) 14 0 rest.0);
      year = leb-true year (last_year s) (unless_clear (leb year (last_year s)) 15 0 rest.1);
    }
