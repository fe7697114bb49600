-- The specification's number of each reason, and a refusal in the words of the definitions: of a check, of an answer.
use Rattle.std.specs.Prelude.{ℕ, Result, Ok, Err}
use Rattle.definitions.specs.Refusals as refusals
use Rattle.definitions.specs.Machine.{Answer, refused}
use Rattle.layout.specs.declared.refusals.Reason.{Reason}
use Rattle.layout.specs.declared.refusals.Reason.TheVariants as R
use Rattle.layout.specs.declared.refusals.Refusal.{Refusal}

abbrev pub number_of : Reason → ℕ
number_of R.Length = 1
number_of R.Version = 2
number_of R.LastYear = 3
number_of R.LengthForYear = 4
number_of R.Closeness = 5
number_of R.Variance = 6
number_of R.PriorVariance = 7
number_of R.PriorMean = 8
number_of R.Amount = 9
number_of R.LastAmounts = 10
number_of R.Part = 11
number_of R.Sweeps = 12
number_of R.Buffer = 13
number_of R.Channel = 14
number_of R.Row = 15
number_of R.NothingOpen = 21
number_of R.FileOpen = 22
number_of R.Spent = 23
number_of R.NotPassed = 24
number_of R.UltimateYear = 25
number_of R.Step = 26
number_of R.LastStep = 27

-- number and place of every answer
abbrev pub told : {X : Type 0} → Result X Refusal → refusals.Check
told (Ok x) = refusals.clear
told (Err r) = refusals.refuses (number_of r.reason) r.place

-- the machine's answer of a refusal
abbrev pub refused_as : Refusal → Answer
refused_as r = refused (number_of r.reason) r.place
