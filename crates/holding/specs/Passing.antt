-- What 21 and 24 tell of a session: it is refused with one of them, or the mean that it holds passes.
use Rattle.std.specs.Prelude.{◌≡◌, ◌⊎◌, Bool, true, false, Result, Ok, Err}
use Rattle.definitions.specs.Words.{part}
use Rattle.definitions.specs.Matrix.{passes}
use Rattle.layout.specs.declared.refusals.Reason.TheVariants.{NothingOpen, NotPassed}
use Rattle.layout.specs.declared.refusals.Refusal.{Refusal}
use Rattle.chain.specs.Arrays.{figures_of, mean_of}
use Rattle.holding.specs.State.{Held, Fits}

-- whether the mean that is held passes
abbrev pub held_passes : Held → Bool
held_passes s = passes (figures_of s.figures) (part (mean_of s.figures.last s.mean))

-- 21 of what is closed, 24 of a mean that fails
abbrev pub Refused : Held → Refusal → Type 0
Refused s r = ((r ≡ record { reason = NothingOpen; place = 0 }) × ¬ Fits s)
    ⊎ ((r ≡ record { reason = NotPassed; place = 0 }) × Fits s × (held_passes s ≡ false))

abbrev pub Passing : {X : Type 0} → Held → Result X Refusal → Type 0
Passing s (Ok x) = Fits s × (held_passes s ≡ true)
Passing s (Err r) = Refused s r
