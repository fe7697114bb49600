-- What the two programs print, for every input: by the answer of the last call that is made, and never more than 4,096 bytes.
use Rattle.std.specs.Prelude.{ℕ, ◌+◌, ◌≤◌, ◌<◌, ◌≡◌, Bool, true, false, List, [], ◌∷◌, ◌++◌, ℤ, length}
use Rattle.std.proofs.Math.Path.{refl, ap}
use Rattle.std.proofs.Common.{sym, ◌∙◌, arith, le-leb, length-append}
use Rattle.std.proofs.Math.Bool.{cond}
use Rattle.std.proofs.Math.Decide.{dec_le}
use Rattle.std.proofs.lemmas.Bool.{lt-leb}
use Rattle.definitions.specs.Words.{tab_from, part}
use Rattle.definitions.specs.Layout.{Bytes, last_year, closeness, parts, prior_mean}
use Rattle.definitions.specs.Refusals.{Check, clear, refuses, file_check, year_limit, is_clear, accepted}
use Rattle.definitions.specs.Observations.{chain_of}
use Rattle.definitions.specs.Matrix.{Part, part_by_index, Figures, figures_from, figures_of, passes}
use Rattle.definitions.specs.Strikes.{StruckFile, unstruck, figures_left}
use Rattle.definitions.specs.Sweep.{Swept, sweeps}
use Rattle.definitions.specs.Text.{ascii, space, line_feed, more_digits, decimal, signed_decimal, name_of, index_of, lines}
use Rattle.definitions.specs.Machine.{Answer, refused, opened, judged, settled, going, written, ultimate_is, struck_out, part_shown, row_is_shown, closed}
use Rattle.definitions.specs.Machine.{State, empty, holds, map_state, Outcome, the_file, open_unless, open_call, sweep_call}
use Rattle.definitions.specs.Programs.{count_line, part_line, refusal_line, spent_line, Show, printed, shown, sweep_text, open_text, program_text}
use Rattle.definitions.specs.Programs.{listed, listing}
use Rattle.laws.proofs.Accepted.{accepted_file}
use Rattle.laws.proofs.StruckFiles.{file_chain}
use Rattle.laws.proofs.SweepLaws.{MeanOf, sweeps_came}
use Rattle.laws.proofs.ReachedStates.{priors_mean}
use Rattle.laws.proofs.Decimal.{decimal_most, signed_most}
use Rattle.laws.proofs.Lines.{lines_most}
use Rattle.laws.proofs.Pages.{three_columns}
use Rattle.laws.specs.Printed.{Ends, MeanSettled}

-- ---- by the answer of the last call

module _ (given : Bytes) where
  -- what an outcome's answer and state have printed
  abbrev Prints : Outcome StruckFile → Type 0
  Prints o = (show : Show) → program_text show given ≡ printed o.answer [] (λ total. shown show o.state)

  abbrev EndsWith : Outcome StruckFile → Type 0
  EndsWith o = Ends given (map_state figures_left o.state) o.answer

  -- ---- sweep: of an accepted file it is not refused, and the mean that is held afterwards decides

  abbrev F : Figures
  F = figures_of given

  abbrev priors : List ℤ
  priors = tab_from 0 (parts (last_year given)) (prior_mean given)

  abbrev end : Swept
  end = sweeps F 4096 priors 0

  -- by the test of the prior means, and by that of the mean that was swept
  abbrev swept : Bool → Bool → Outcome StruckFile
  swept at_once in-the-end =
      cond at_once (record { answer = settled 0; state = holds (unstruck given) priors 0; buffer = [] })
      (record {
        answer = cond in-the-end (settled end.swept) (going end.swept);
        state = holds (unstruck given) end.mean end.swept;
        buffer = [];
      })

  module _ (file : accepted given ≡ true) where
    priors_inside : MeanOf (last_year given) priors
    priors_inside = priors_mean given (accepted_file given file)

    settles : {μ : List ℤ} {total : ℕ} → MeanOf (last_year given) μ → passes F (part μ) ≡ true
        → ((show : Show) → program_text show given ≡ show F μ total) → MeanSettled given (holds F μ total) total
    settles {μ} m p text = record { mean = μ; file = file; state = refl; passing = p; inside = λ k below. m.inside k; text = text }

    by_tests : (a b : Bool) → passes F (part priors) ≡ a → passes F (part end.mean) ≡ b → Prints (swept a b) → EndsWith (swept a b)
    by_tests true b p q text = settles priors_inside p text
    by_tests false true p q text =
        let carried = (file_chain given (accepted_file given file)).1 in
        settles (sweeps_came (chain_of given) (closeness given) carried 4096 priors 0 priors_inside).mean q text
    by_tests false false p q text = text

  -- ---- the two calls

  abbrev pub opening : Outcome StruckFile
  opening = open_call the_file empty given

  abbrev sweeping_from : State StruckFile → Outcome StruckFile
  sweeping_from st = sweep_call figures_left st 4096

  abbrev pub sweeping : Outcome StruckFile
  sweeping = sweeping_from opening.state

  pub long_text : 2807 ≤ length given → (show : Show) → program_text show given ≡ refusal_line 1 0
  unfolding program_text
  long_text long show = ap (λ b. cond b (refusal_line 1 0) (open_text show given)) (le-leb 2807 (length given) long)

  module _ (short : length given < 2807) where
    by_open : (show : Show) {a : Answer} → a ≡ opening.answer
        → program_text show given ≡ printed a (sweep_text show opening.state) (λ total. [])
    unfolding program_text open_text
    by_open show e =
        ap (λ b. cond b (refusal_line 1 0) (open_text show given)) (lt-leb 2807 (length given) short)
        ∙ ap (λ a. printed a (sweep_text show opening.state) (λ total. [])) (sym e)

    pub refused_text : {number place : ℕ} → refused number place ≡ opening.answer
        → (show : Show) → program_text show given ≡ refusal_line number place
    refused_text e show = by_open show e

    pub swept_ends : opened ≡ opening.answer → EndsWith sweeping
    unfolding open_call sweep_call sweep_text
    swept_ends e = by_check (file_check given) refl e (λ show. by_open show e)
      where
        opens : Check → Outcome StruckFile
        opens c = open_unless the_file c given

        by_check : (c : Check) → file_check given ≡ c → opened ≡ (opens c).answer
            → Prints (sweeping_from (opens c).state) → EndsWith (sweeping_from (opens c).state)
        by_check clear cleared told text =
            by_tests (ap is_clear cleared) (passes F (part priors)) (passes F (part end.mean)) refl refl text
        by_check (refuses number place) cleared told text = let z : ◌≡◌ {A = ℕ} 0 1 = cc in absurd (omega arith)

  -- ---- an ending for every input

  pub record Ending : Type 0 where
    pub state : State Figures
    pub answer : Answer
    pub ends : Ends given state answer

  ending : Ending
  unfolding open_call
  ending = by_length (dec_le 2807 (length given))
    where
      answered : {c : Check} → file_check given ≡ c → (open_unless the_file c given).answer ≡ opening.answer
      answered e = ap (λ c. (open_unless the_file c given).answer) (sym e)

      by_check : length given < 2807 → (c : Check) → file_check given ≡ c → Ending
      by_check short clear e =
          record { state = map_state figures_left sweeping.state; answer = sweeping.answer; ends = swept_ends short (answered e) }
      by_check short (refuses number place) e =
          record { state = empty; answer = refused number place; ends = refused_text short (answered e) }

      by_length : Dec (2807 ≤ length given) → Ending
      by_length (yes long) = record { state = empty; answer = refused 1 0; ends = long_text long }
      by_length (no short) = by_check (omega (arith, short)) (file_check given) refl

-- ---- how long it is

-- a name and a number, whatever the number is
count_most : (name : Bytes) (n : ℕ) → length (count_line name n) ≤ length name + 21
count_most name n =
    omega (arith, length-append (name ++ decimal n) (line_feed ∷ []), length-append name (decimal n), decimal_most more_digits n)

pub refusal_most : (number place : ℕ) → length (refusal_line number place) ≤ 4096
unfolding ascii tab_from
refusal_most number place =
    let front = ascii "refused " ++ decimal number in
    omega (
      arith,
      length-append front (count_line (ascii " at ") place),
      length-append (ascii "refused ") (decimal number),
      decimal_most more_digits number,
      count_most (ascii " at ") place,
    )

pub spent_most : (total : ℕ) → length (spent_line total) ≤ 4096
unfolding ascii tab_from
spent_most total = omega (arith, count_most (ascii "spent ") total)

part_most : (p : Part) (mean : ℤ) → length (part_line p mean) ≤ 47
unfolding part_line
part_most p mean =
    let indexed = name_of p ++ space ∷ decimal (index_of p) in
    omega (
      arith,
      length-append (indexed ++ space ∷ signed_decimal mean) (line_feed ∷ []),
      length-append indexed (space ∷ signed_decimal mean),
      length-append (name_of p) (space ∷ decimal (index_of p)),
      three_columns p,
      decimal_most more_digits (index_of p),
      signed_most mean,
    )

pub listed_most : (F : Figures) (μ : List ℤ) (total : ℕ) → F.last ≤ year_limit → length (listed F μ total) ≤ 4096
unfolding listed ascii tab_from
listed_most F μ total years =
    let J = count_line (ascii "J ") F.last in
    let swept-so-far = count_line (ascii "sweeps ") total in
    let line : ℕ → Bytes = λ k. part_line (part_by_index F.last k) (part μ k) in
    omega (
      arith,
      length-append (J ++ swept-so-far) (lines line (parts F.last)),
      length-append J swept-so-far,
      count_most (ascii "J ") F.last,
      count_most (ascii "sweeps ") total,
      lines_most line 47 (parts F.last) (λ k below. part_most (part_by_index F.last k) (part μ k)),
    )

module _ (given : Bytes) where
  years_to : accepted given ≡ true → (figures_of given).last ≤ year_limit
  unfolding figures_from
  years_to file = (accepted_file given file).years.to

  -- enough that what is shown of a mean that settled is no longer
  most : (show : Show)
      → ((st : State Figures) (total : ℕ) (s : MeanSettled given st total) → length (show (figures_of given) s.mean total) ≤ 4096)
      → length (program_text show given) ≤ 4096
  most show settled-most = let e = ending given in by_answer e.state e.answer e.ends
    where
      short : {text : Bytes} → program_text show given ≡ text → length text ≤ 4096 → length (program_text show given) ≤ 4096
      short e h = omega (arith, ap length e, h)

      by_answer : (st : State Figures) (a : Answer) → Ends given st a → length (program_text show given) ≤ 4096
      by_answer st (refused number place) text = short (text show) (refusal_most number place)
      by_answer st (going total) text = short (text show) (spent_most total)
      by_answer st (settled total) s = short (s.text show) (settled-most st total s)
      by_answer st opened text = elim text [ ]
      by_answer st (judged _) text = elim text [ ]
      by_answer st written text = elim text [ ]
      by_answer st (ultimate_is _) text = elim text [ ]
      by_answer st struck_out text = elim text [ ]
      by_answer st (part_shown _) text = elim text [ ]
      by_answer st row_is_shown text = elim text [ ]
      by_answer st closed text = elim text [ ]

  pub listing_most : length (listing given) ≤ 4096
  listing_most = most listed (λ st total s. listed_most (figures_of given) s.mean total (years_to s.file))
