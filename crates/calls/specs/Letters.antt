-- The letters of the calls, in ASCII.
use Rattle.std.specs.Prelude.{◌≡◌, ◌≢◌, ℕ, Result, MatchResult}
use Rattle.calls.specs.declared.call.Call.{Call}
use Rattle.calls.specs.declared.call.Call.TheVariants.{Open, Judge, Sweep, Read, Page, Ultimate, Strike, Residues, Figures, Row, Close}
use Rattle.calls.specs.declared.stop.Stop.{Stop}
use Rattle.calls.specs.declared.stop.Stop.TheVariants.{Script}

abbrev pub letter_of : Call → ℕ
letter_of Open = 111
letter_of Judge = 106
letter_of Sweep = 115
letter_of Read = 114
letter_of Page = 112
letter_of Ultimate = 117
letter_of Strike = 107
letter_of Residues = 100
letter_of Figures = 102
letter_of Row = 119
letter_of Close = 99

-- the call with this letter; or the script is wrong, as no call has it
abbrev pub Names : ℕ → Result Call Stop → Type 0
Names letter r = MatchResult r (λ call. letter_of call ≡ letter) (λ e. (e ≡ Script) × ((call : Call) → letter_of call ≢ letter))
