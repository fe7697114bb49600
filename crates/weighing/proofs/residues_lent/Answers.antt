-- `residues_lent` meets its contract: after 21, the checks of the record and 13, the residues of the record's mean are written.
use Rattle.std.proofs.Common.{Err, refl}
use Prim.Native.Nat.{ℕ, ◌≤◌}
use mathlib.Core.Path.{◌≡◌, sym}
use mathlib.Core.List.{List}
use native.Mathlib.Omega.{arith}
use Rattle.definitions.specs.Refusals.{clear, record_check}
use Rattle.records.proofs.MeanOfRecord.{part_small, part_is}
use Rattle.records.specs.Parse.{padded}
use Rattle.observations.specs.declared.Observations.{Observations}
use Rattle.observations.specs.Arrays.{observations_at}
use Rattle.holding.specs.State.{Held, Fits, held_at}
use Rattle.holding.specs.Fitted.{frame}
use Rattle.weighing.proofs.WeighLaws.{weighs_closed, weighs_refused, weighs_short, weighs_written}
use Rattle.weighing.proofs.residues_lent.Goals as goal
use Rattle.weighing.proofs.residues_lent.Goals.{Else-not-is_open, In_ok-of_record, Start}

-- what is lent
module _ (c : Start) where
  abbrev s : Held
  s = let a = c.args in held_at a.last a.closeness a.total a.own.now a.matrix.now a.right_hand.now a.mean.now

  abbrev o : List ℕ → Observations
  o variances = observations_at c.args.ticks.now c.args.weights.now variances c.args.struck.now

pub returns-then-not-is_open : goal.returns-then-not-is_open
returns-then-not-is_open c variances =
    let at = goal.at.returns-then-not-is_open c in
    rw c.at.ensures (weighs_closed (o at.Start variances) (s at.Start) _ _ (c.is_open.ensures.when_no c.if-not-is_open.true))

-- a file is open
module _ (c : Else-not-is_open) where
  open_file : Fits (s (goal.at.overflow_cast-years c).Start)
  open_file = c.is_open.ensures.when_yes c.if-not-is_open.false

  years : c.args.last ≤ 15
  years = (frame open_file).years

pub overflow_cast-years : goal.overflow_cast-years
overflow_cast-years c = record { fits = omega (arith, years c) }

pub parse-requires : goal.parse-requires
parse-requires c = years c

pub returns-in_err-of_record : goal.returns-in_err-of_record
returns-in_err-of_record c variances =
    let at = goal.at.returns-in_err-of_record c in
    let refusal = c.in_err-of_record.field-0.0 in
    let handed : c.from_residual.result ≡ Err refusal = grind arith in
    rw handed
    (weighs_refused (o at.Start variances) (s at.Start) _ _ (open_file at.Else-not-is_open) refusal (sym c.in_err-of_record.ensures.checked))

-- the record is not refused, so its mean is read
module _ (c : In_ok-of_record) where
  taken : record_check c.args.last c.args.lent.now ≡ clear
  taken = sym c.in_ok-of_record.ensures.checked

  parsed_mean : c.in_ok-of_record.of_record ≡ padded c.args.last c.args.lent.now
  parsed_mean = c.in_ok-of_record.ensures.is _ refl

pub residues_length-requires : goal.residues_length-requires
residues_length-requires c = years (goal.at.residues_length-requires c).Else-not-is_open

pub returns-then-buffer-residues_length : goal.returns-then-buffer-residues_length
returns-then-buffer-residues_length c variances =
    let at = goal.at.returns-then-buffer-residues_length c in
    rw c.at-then-buffer-residues_length.ensures (weighs_short (o at.Start variances) (s at.Start) _ _ (open_file at.Else-not-is_open) (taken at.In_ok-of_record)
    (omega (arith, c.if-buffer-residues_length.true, c.residues_length.ensures)))

pub residues_of-residues-requires : goal.residues_of-residues-requires
residues_of-residues-requires c =
    let in_ok = (goal.at.residues_of-residues-requires c).In_ok-of_record in
    let last = c.args.last in
    let lent = c.args.lent.now in
    record {
      few = years (goal.at.residues_of-residues-requires c).Else-not-is_open;
      small = λ k below. rw (part_is last lent (parsed_mean in_ok) k) (part_small last lent (taken in_ok) k below);
    }

pub write_residues-requires : goal.write_residues-requires
write_residues-requires c =
    record {
      few = years (goal.at.write_residues-requires c).Else-not-is_open;
      room = omega (arith, c.if-buffer-residues_length.false, c.residues_length.ensures);
    }

pub returns : goal.returns
returns c variances =
    let at = goal.at.returns c in
    weighs_written (o at.Start variances) (s at.Start) _ _ (open_file at.Else-not-is_open) (taken at.In_ok-of_record)
    (omega (arith, c.if-buffer-residues_length.false, c.residues_length.ensures))
    c.in_ok-of_record.of_record c.residues_of-residues.result _
    (part_is c.args.last c.args.lent.now (parsed_mean at.In_ok-of_record))
    (c.residues_of-residues.ensures.are variances)
    c.write_residues.ensures
