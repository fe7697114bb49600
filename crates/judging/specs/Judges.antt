-- The contract of judge: the answer is the machine's, and the caller is told both halves of demand 3, what a mean that passes is worth and
-- which must pass.
use Rattle.std.specs.Prelude.{ℕ, ◌≡◌, List, ℤ, Result, Ok, Err}
use Rattle.definitions.specs.Words.{part}
use Rattle.definitions.specs.Layout.{Bytes, last_year, closeness, mean_of}
use Rattle.definitions.specs.Refusals.{clear, record_check}
use Rattle.definitions.specs.Matrix.{Figures}
use Rattle.definitions.specs.Strikes.{StruckFile, chain_left}
use Rattle.definitions.specs.Machine.{Answer, judged, State, judge_call}
use Rattle.definitions.specs.Guarantee.{Guarantee, Rounded}
use Rattle.layout.specs.declared.refusals.Refusal.{Refusal}
use Rattle.layout.specs.Refusals.{refused_as}
use Rattle.chain.specs.declared.judge.Judgement.{Judgement}
use Rattle.chain.specs.declared.judge.Judgement.TheVariants.{Passed}
use Rattle.chain.specs.Verdict.{judgement_of}
use Rattle.holding.specs.State.{Held, state_of, HoldsFile}

-- the specification's number, place and values for every case of an answer
abbrev pub of_judge : Result Judgement Refusal → Answer
of_judge (Ok verdict) = judged (judgement_of verdict)
of_judge (Err r) = refused_as r

-- the machine on figures, which are all that it uses of what is kept
abbrev pub judges_to : State Figures → Bytes → Answer
judges_to = judge_call (λ F. F)

pub record Judges (s : Held) (meanRecord : Bytes) (r : Result Judgement Refusal) : Type 0 where
  pub answer : of_judge r ≡ judges_to (state_of s) meanRecord
  -- whoever proposed the mean
  pub worth : (f : StruckFile) (μ : List ℤ) (total : ℕ) → HoldsFile s f μ total
      → r ≡ Ok Passed → Guarantee (chain_left f) (closeness f.file) (part (mean_of (last_year f.file) meanRecord))
  -- a record that is not refused, of a rounded mean
  pub rounded : (f : StruckFile) (μ : List ℤ) (total : ℕ) → HoldsFile s f μ total
      → record_check (last_year f.file) meanRecord ≡ clear
      → Rounded (chain_left f) (closeness f.file) (part (mean_of (last_year f.file) meanRecord)) → r ≡ Ok Passed
