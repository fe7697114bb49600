-- What C is told, case by case and of every number, as include/desk.h has it.
use Rattle.std.specs.Prelude.{refl}
use Rattle.integers.specs.Summation.{total}
use Rattle.definitions.specs.Layout.{row_start}
use Rattle.telling.specs.Pinned.{Pinned}

pub pinned : Pinned
unfolding row_start total
pinned = record {
  opened_file = refl;
  refused_file = λ number place. refl;
  written_mean = refl;
  struck_step = refl;
  passed_mean = refl;
  failing_mean = λ k. refl;
  refused_record = λ number place. refl;
  settled_mean = λ n. refl;
  going_mean = λ n. refl;
  refused_sweeps = λ number place. refl;
  central_ultimate = λ floor remainder divisor. refl;
  refused_ultimate = λ number place. refl;
  shown_row = λ J channel year. refl;
  row_of_F = refl;
  refused_row = λ J channel year number place. refl;
  shown_system = λ J e D A b. refl;
  refused_system = λ number place. refl;
}
