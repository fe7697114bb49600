-- The contracts of read and page: answer and buffer are the machine's, and the caller is told what the mean that is written is worth.
use Rattle.std.specs.Prelude.{ℕ, ◌≡◌, List, ℤ, Result, Ok, Err, IsOk}
use Rattle.definitions.specs.Words.{part}
use Rattle.definitions.specs.Layout.{Bytes, closeness, record_length}
use Rattle.definitions.specs.Page.{page_length}
use Rattle.definitions.specs.Matrix.{Figures}
use Rattle.definitions.specs.Strikes.{StruckFile, chain_left}
use Rattle.definitions.specs.Machine as M
use Rattle.definitions.specs.Machine.{Answer, State, Outcome, write_call, record_in, page_in}
use Rattle.definitions.specs.Guarantee.{Guarantee}
use Rattle.layout.specs.declared.refusals.Refusal.{Refusal}
use Rattle.layout.specs.Refusals.{refused_as}
use Rattle.holding.specs.State.{Held, state_of, HoldsFile}

-- the specification's number, place and values for every case of an answer
abbrev pub of_write : Result Unit Refusal → Answer
of_write (Ok done) = M.written
of_write (Err r) = refused_as r

-- what is written of a mean, and how many bytes for a J: the two calls differ in these alone
abbrev pub Text : Type 0
Text = Figures → List ℤ → Bytes

-- the machine on figures, which are all that it uses of what is kept
abbrev pub writes_to : (ℕ → ℕ) → Text → State Figures → Bytes → Outcome Figures
writes_to = write_call (λ F. F)

-- of the buffer before, and of the buffer after
pub record Writes (size : ℕ → ℕ) (text : Text) (s : Held) (before : Bytes) (r : Result Unit Refusal) (after : Bytes) : Type 0 where
  pub answer : of_write r ≡ (writes_to size text (state_of s) before).answer
  pub buffer : after ≡ (writes_to size text (state_of s) before).buffer
  -- the mean that is written
  pub worth : (f : StruckFile) (μ : List ℤ) (total : ℕ) → HoldsFile s f μ total → IsOk r
      → Guarantee (chain_left f) (closeness f.file) (part μ)

abbrev pub Reads : Held → Bytes → Result Unit Refusal → Bytes → Type 0
Reads = Writes record_length record_in

abbrev pub Pages : Held → Bytes → Result Unit Refusal → Bytes → Type 0
Pages = Writes page_length page_in
