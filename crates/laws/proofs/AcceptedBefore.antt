-- A file that another check than the definitions' lets through, where the two are alike whenever that one does: it is accepted, and open
-- and row answer as they would by that check. So files that were accepted before a change of the checks give what they gave.
use Rattle.std.specs.Prelude.{ℕ, ◌≡◌, true, leb}
use Rattle.std.proofs.Common.{sym, ◌∙◌}
use Rattle.std.proofs.Math.Path.{ap}
use Rattle.definitions.specs.Layout.{Bytes, last_year}
use Rattle.definitions.specs.Refusals.{Check, unless, ◌then◌, file_check, row_check, is_clear, accepted}
use Rattle.definitions.specs.Machine.{Keeping, empty, open_unless, open_call}
use Rattle.laws.specs.ClearChecks.{Kept}

module _ (f : Bytes) (check : Check) (kept : Kept check (file_check f)) (was : is_clear check ≡ true) where
  pub still_accepted : accepted f ≡ true
  still_accepted = ap is_clear (sym (kept was)) ∙ was

  -- open, of an empty session: the same is kept of the file, whatever it is, with the same mean and the same total
  pub opened_alike : (X : Type 0) (K : Keeping X) → open_unless K check f ≡ open_call K empty f
  unfolding open_call
  opened_alike X K = ap (λ c. open_unless K c f) (kept was)

  -- row, shown or told: with the same answer for every channel and year
  pub row_alike : (channel year : ℕ)
      → check then unless (leb channel 1) 14 0 then unless (leb year (last_year f)) 15 0 ≡ row_check f channel year
  unfolding row_check
  row_alike channel year = ap (λ c. c then unless (leb channel 1) 14 0 then unless (leb year (last_year f)) 15 0) (kept was)
