-- The number of a refusal is one of the specification's table: 0 is free to say that there is none, and 16 is not used. `Pinned` has it
-- of every call.
use Rattle.std.specs.Prelude.{ℕ, zero, suc, true, false, not, cond, ◌&&◌, List, ℤ, length, T, leb, ltb, eqb}
use Rattle.std.proofs.Math.Bool.{Bool}
use Rattle.definitions.specs.Words.{within, part}
use Rattle.definitions.specs.Layout.{Bytes, length_word, version, last_year, closeness, file_length, record_length, paid, incurred, paid_at}
use Rattle.definitions.specs.Refusals.{year_limit, closeness_limit, Check, clear, refuses, unless, ◌then◌, fields}
use Rattle.definitions.specs.Refusals.{check1, check2, check3, check4, check5, check6, check7, check8, check9, check10}
use Rattle.definitions.specs.Refusals.{file_check, row_check, record_check}
use Rattle.definitions.specs.Observations.{Chain}
use Rattle.definitions.specs.Matrix.{Figures, passes}
use Rattle.definitions.specs.Residues.{residues_length}
use Rattle.definitions.specs.Sweep.{sweeps, sweep_limit}
use Rattle.definitions.specs.Strikes.{Step, step, is_step, left_beside, strike_check}
use Rattle.definitions.specs.Ultimate.{Latest, Ultimate}
use Rattle.definitions.specs.Machine.{Outcome, Answer, refused, settled, going, ultimate_is}
use Rattle.definitions.specs.Machine.{State, empty, holds, Keeping, open_unless, strike_unless, refused_or}
use Rattle.definitions.specs.Machine.{open_call, judge_call, sweep_call, write_call, ultimate_call, writes_unless, residues_call, strike_call}
use Rattle.laws.specs.Numbers.{Numbered, NumberedAnswer, in_table, ◌and_then◌}

-- ---- checks

unless_numbered : (t : Bool) (number place : ℕ) → T (in_table number) → Numbered (unless t number place)
unless_numbered true number place listed = record { listed = tt }
unless_numbered false number place listed = record { listed = listed }

fields_numbered : (good : ℕ → Bool) (number : ℕ) (place_of : ℕ → ℕ) (i n : ℕ) → T (in_table number)
    → Numbered (fields good number place_of i n)
unfolding fields
fields_numbered good number place_of i zero listed = record { listed = tt }
fields_numbered good number place_of i (suc n) listed =
    unless_numbered (good i) number (place_of i) listed and_then fields_numbered good number place_of (suc i) n listed

-- check 1, of a file and of a record
length_numbered : (least : ℕ) (b : Bytes) → Numbered (unless (leb least (length b) && eqb (length_word b) (length b)) 1 0)
length_numbered least b = unless_numbered (leb least (length b) && eqb (length_word b) (length b)) 1 0 tt

file_numbered : (f : Bytes) → Numbered (file_check f)
unfolding file_check check1 check2 check3 check4 check5 check6 check7 check8 check9 check10
file_numbered f =
    let J : ℕ = last_year f in
    length_numbered 10 f
    and_then unless_numbered (eqb (version f) 1) 2 4 tt
    and_then unless_numbered (within 1 year_limit J) 3 5 tt
    and_then unless_numbered (eqb (length f) (file_length J)) 4 0 tt
    and_then unless_numbered (within 1 closeness_limit (closeness f)) 5 6 tt
    and_then fields_numbered _ 6 _ 0 _ tt
    and_then fields_numbered _ 7 _ 0 _ tt
    and_then fields_numbered _ 8 _ 0 _ tt
    and_then fields_numbered _ 9 _ 0 _ tt
    and_then unless_numbered (eqb (paid f 0 J) (incurred f 0 J)) 10 (paid_at J 0 J) tt

pub row_numbered : (f : Bytes) (channel year : ℕ) → Numbered (row_check f channel year)
unfolding row_check
row_numbered f channel year =
    file_numbered f
    and_then unless_numbered (leb channel 1) 14 0 tt
    and_then unless_numbered (leb year (last_year f)) 15 0 tt

record_numbered : (J : ℕ) (r : Bytes) → Numbered (record_check J r)
unfolding record_check
record_numbered J r =
    length_numbered 5 r
    and_then unless_numbered (eqb (version r) 1) 2 4 tt
    and_then unless_numbered (eqb (length r) (record_length J)) 4 0 tt
    and_then fields_numbered _ 11 _ 0 _ tt

step_numbered : (J : ℕ) (struck : Step → Bool) (s : Step) → Numbered (strike_check J struck s)
unfolding strike_check
step_numbered J struck (step channel i j) =
    unless_numbered (leb channel 1) 14 0 tt
    and_then unless_numbered (is_step J (step channel i j) && not (struck (step channel i j))) 26 0 tt
    and_then unless_numbered (not (eqb (left_beside J struck (step channel i j)) 1)) 27 0 tt

-- ---- answers

pub refused_or_lem : (c : Check) (a : Answer) → Numbered c → NumberedAnswer a → NumberedAnswer (refused_or c a)
refused_or_lem clear a h listed = listed
refused_or_lem (refuses number place) a h listed = h.listed

settled_or_going : (b : Bool) (total : ℕ) → NumberedAnswer (cond b (settled total) (going total))
settled_or_going true total = tt
settled_or_going false total = tt

either : {X : Type 0} (t : Bool) (x y : Outcome X) → NumberedAnswer x.answer → NumberedAnswer y.answer
    → NumberedAnswer (cond t x y).answer
either true x y first second = first
either false x y first second = second

pub open_numbered : {X : Type 0} (K : Keeping X) (st : State X) (f : Bytes) → NumberedAnswer (open_call K st f).answer
unfolding open_call
open_numbered K empty f = by_check (file_check f) (file_numbered f)
  where
    by_check : (c : Check) → Numbered c → NumberedAnswer (open_unless K c f).answer
    by_check clear h = tt
    by_check (refuses number place) h = h.listed
open_numbered K (holds x μ total) f = tt

module _ {X : Type 0} (figures : X → Figures) where
  pub judge_numbered : (st : State X) (r : Bytes) → NumberedAnswer (judge_call figures st r)
  unfolding judge_call
  judge_numbered empty r = tt
  judge_numbered (holds x μ total) r = refused_or_lem (record_check (figures x).last r) _ (record_numbered (figures x).last r) tt

  pub sweep_numbered : (st : State X) (n : ℕ) → NumberedAnswer (sweep_call figures st n).answer
  unfolding sweep_call
  sweep_numbered empty n = tt
  sweep_numbered (holds x μ total) n =
      let after : Bool = passes (figures x) (part (sweeps (figures x) n μ total).mean) in
      either (not (within 1 sweep_limit n)) _ _ tt
      (either (passes (figures x) (part μ)) _ _ tt
      (either (leb sweep_limit total) _ _ tt (settled_or_going after _)))

  pub write_numbered : (size : ℕ → ℕ) (text : Figures → List ℤ → Bytes) (st : State X) (b : Bytes)
      → NumberedAnswer (write_call figures size text st b).answer
  unfolding write_call
  write_numbered size text empty b = tt
  write_numbered size text (holds x μ total) b =
      either (not (passes (figures x) (part μ))) _ _ tt
      (either (ltb (length b) (size (figures x).last)) _ _ tt tt)

pub ultimate_numbered : {X : Type 0} (figures : X → Figures) (latest : X → Latest) (st : State X) (year : ℕ)
    → NumberedAnswer (ultimate_call figures latest st year)
unfolding ultimate_call
ultimate_numbered figures latest empty year = tt
ultimate_numbered figures latest (holds x μ total) year =
    by_tests (not (passes (figures x) (part μ))) (not (within 1 (figures x).last year)) _
  where
    by_tests : (a b : Bool) (r : Ultimate) → NumberedAnswer (cond a (refused 24 0) (cond b (refused 25 0) (ultimate_is r)))
    by_tests true b r = tt
    by_tests false true r = tt
    by_tests false false r = tt

pub residues_numbered : {X : Type 0} (chain : X → Chain) (st : State X) (r b : Bytes)
    → NumberedAnswer (residues_call chain st r b).answer
unfolding residues_call
residues_numbered chain empty r b = tt
residues_numbered chain (holds x μ total) r b =
    let J : ℕ = (chain x).last in
    by_check (record_check J r then unless (leb (residues_length J) (length b)) 13 0) _
    (record_numbered J r and_then unless_numbered (leb (residues_length J) (length b)) 13 0 tt)
  where
    by_check : (c : Check) (text : Bytes) → Numbered c → NumberedAnswer (writes_unless c (holds x μ total) text b).answer
    by_check clear text h = tt
    by_check (refuses number place) text h = h.listed

pub strike_numbered : {X : Type 0} (K : Keeping X) (st : State X) (s : Step) → NumberedAnswer (strike_call K st s).answer
unfolding strike_call
strike_numbered K empty s = tt
strike_numbered K (holds x μ total) s =
    by_check (strike_check (K.figures x).last (K.struck x) s) (step_numbered (K.figures x).last (K.struck x) s)
  where
    by_check : (c : Check) → Numbered c → NumberedAnswer (strike_unless K c s x μ total).answer
    by_check clear h = tt
    by_check (refuses number place) h = h.listed
