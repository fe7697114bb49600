-- `row_starts::starts_of` meets its contract. The rule is shown over the entire table by one test, which the checker computes: `refl`, that the
-- constant is the list of the rule's 256 numbers. The lemma `rule` turns it into the rule at each entry. The loop's invariant: the years
-- passed have their entries. Assumes nothing.
use Prim.Native.Nat.{ℕ, ◌+◌, ◌*◌, ◌≤◌, ◌<◌}
use mathlib.Core.Path.{◌≡◌, refl, sym, ap, subst, ◌∙◌}
use mathlib.Core.List.{List}
use native.Mathlib.Omega.{arith}
use mir.Facts.{Fits-below}
use lib.ListN.{get_or}
use Rattle.definitions.specs.Words.{tab_from}
use Rattle.definitions.specs.RowStarts.{table_entry}
use Rattle.laws.proofs.Tables.{tab_at}
use Rattle.laws.proofs.Cells.{entry_few}
use Rattle.laws.proofs.Filled.{filled_none, filled_next, filled_to}
use Rattle.row_starts.proofs.starts_of.Invariants.{IsTable}
use Rattle.row_starts.proofs.starts_of.Goals as goal

rule : (table : List ℕ) → IsTable table → (k : ℕ) → k < 256 → get_or table k 0 ≡ table_entry k
rule table test k below = ap (λ l. get_or l k 0) test ∙ tab_at 256 table_entry k 0 below

pub loop-year-init : goal.loop-year-init
unfolding tab_from
loop-year-init c = (refl, filled_none 16 0 _)

pub overflow_cast-starts : goal.overflow_cast-starts
overflow_cast-starts c =
    let l = c.before.loop-year in
    let k : ℕ = 16 * c.before.before.args.last + l.year in
    let below : k < 256 = omega arith in
    Fits-below tt (subst (λ n. n ≤ 240) (sym (rule _ l.invariant.0 k below)) (entry_few k below))

pub loop-year-preserved : goal.loop-year-preserved
loop-year-preserved c =
    let l = c.before.loop-year in
    let entry = rule _ l.invariant.0 (16 * c.before.before.args.last + l.year) (omega arith) in
    (l.invariant.0, filled_next l.invariant.1 (omega arith) entry)

pub returns : goal.returns
returns c = record { filled = filled_to (omega arith) c.before.loop-year.invariant.1 }
