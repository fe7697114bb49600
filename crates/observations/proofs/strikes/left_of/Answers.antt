-- `observations::strikes::left_of` meets its contract: what the filter lets through is what the definition counts.
use Rattle.std.proofs.Common.{rules, ◌≡◌, ◌∙◌, ap, ◌+◌, ◌*◌, ◌-◌, eqb, take, drop, count_by, arith}
use Rattle.observations.proofs.StrikeLaws.{counted_unmarked}
use Rattle.observations.proofs.strikes.left_of.Goals as goal

pub returns : goal.returns
returns c =
    let a = c.args in
    let marks = drop (16 * a.k) a.struck.now in
    let counted : c.count.result ≡ count_by (λ mark. eqb mark 0) (take (16 * a.k + a.n - 16 * a.k) marks) = search rules in
    let steps : 16 * a.k + a.n - 16 * a.k ≡ a.n = omega arith in
    counted
    ∙ ap (λ n. count_by (λ mark. eqb mark 0) (take n marks)) steps
    ∙ counted_unmarked a.struck.now a.k a.n (omega arith)
