-- The joint table holds: each row computes from the definitions.
use Rattle.std.specs.Prelude.{refl}
use Rattle.std.specs.Int.Count.{count_leading_zeros}
use Rattle.integers.specs.Summation.{sum, total}
use Rattle.definitions.specs.Words.{tab_from}
use Rattle.definitions.specs.Logarithm.{logarithm, half_ticks, bits_of, highest_bit, start_from, next_bit, next_Y}
use Rattle.definitions.specs.Weight.{weight}
use Rattle.definitions.specs.Layout.{big_endian, unsigned, twos_complement, row_start, bytes_of, complement, four_bytes, part_bytes, number_bytes}
use Rattle.definitions.specs.Refusals.{fields, check1, check2, check3, check4, check5, check6, check7, check8, check9, check10, file_check}
use Rattle.definitions.specs.Refusals.{record_check}
use Rattle.definitions.specs.Observations.{ratio_variance, paid_step, incurred_step, last_ratio}
use Rattle.definitions.specs.Matrix.{figures_from, part_by_index, own, matrix, right_hand_side, residue, judge_from}
use Rattle.definitions.specs.Loss.{ratio}
use Rattle.definitions.specs.Residues.{observed_times, residue_bytes}
use Rattle.definitions.specs.Strikes.{is_step, left_beside, strike_check}
use Rattle.definitions.specs.Text.{ascii, decimal_from, signed_decimal, aligned, name_of, index_of, lines}
use Rattle.definitions.specs.Page.{page_line}
use Rattle.definitions.specs.Ultimate.{paid_variance, incurred_variance, paid_ultimate, incurred_ultimate, ultimate_of}
use Rattle.definitions.specs.Machine.{open_call, sweep_call, write_call, ultimate_call, strike_call, residues_call, outcome}
use Rattle.definitions.specs.Kept.{paid_step_in, marks_of, marked}
use Rattle.definitions.specs.Programs.{part_line, sweep_text, open_text, program_text, listed}
use Rattle.definitions.specs.JointTable.{JointTable}

pub joint_table : JointTable
unfolding count_leading_zeros sum total tab_from logarithm half_ticks bits_of highest_bit start_from next_bit next_Y weight big_endian unsigned
    twos_complement row_start fields check1 check2 check3 check4 check5 check6 check7 check8 check9 check10 file_check
    ratio_variance paid_step incurred_step last_ratio figures_from part_by_index own matrix right_hand_side residue judge_from
    ascii decimal_from signed_decimal aligned name_of index_of lines page_line part_line open_call sweep_call write_call
    sweep_text open_text program_text listed paid_variance incurred_variance paid_ultimate incurred_ultimate ultimate_of ultimate_call
    is_step left_beside strike_check strike_call outcome paid_step_in marks_of marked ratio observed_times residue_bytes bytes_of
    complement four_bytes part_bytes number_bytes record_check residues_call
joint_table = record {
  log_of_1 = refl;
  log_of_2^40 = refl;
  log_of_2^44 = refl;
  log_of_3 = refl;
  weight_of_2^18 = refl;
  weight_of_2^46 = refl;
  F_accepted = refl;
  F_p = refl;
  F_q = refl;
  F_g = refl;
  F_observed = refl;
  F_own = refl;
  F_matrix = refl;
  F_right_hand = refl;
  zero_residues = refl;
  zero_residues_pass = refl;
  residue_at_the_bound = refl;
  one_tick_passes = refl;
  two_ticks_fail = refl;
  part_1_fails = refl;
  part_1_passes_with_e_2 = refl;
  F_page = refl;
  widest_line = refl;
  narrowest_line = refl;
  F_page_closed = refl;
  F_page_failing = refl;
  F_page_short = refl;
  F_page_written = refl;
  F_page_behind = refl;
  F_board_page = refl;
  F_listing = refl;
  weight_of_0 = refl;
  flat_accepted = refl;
  flat_own = refl;
  flat_matrix = refl;
  flat_right_hand = refl;
  flat_listing = refl;
  flat_start = refl;
  flat_mean_above = refl;
  flat_first = refl;
  flat_last = refl;
  prior_variance_1 = refl;
  prior_variance_below = refl;
  prior_variance_above = refl;
  largest_accepted = refl;
  largest_right_hand = refl;
  beside_1_right_hand = refl;
  paid_first_above = refl;
  paid_last_above = refl;
  incurred_first_above = refl;
  incurred_last_above = refl;
  amount_0 = refl;
  F_ultimate = refl;
  F_ultimate_half = refl;
  F_ultimate_closed = refl;
  F_ultimate_failing = refl;
  F_ultimate_year_0 = refl;
  F_ultimate_year_2 = refl;
  small_ultimate_1 = refl;
  small_ultimate_2 = refl;
  three_ultimates = refl;
  three_refusals = refl;
  struck_own = refl;
  struck_matrix = refl;
  struck_right_hand = refl;
  struck_first = refl;
  struck_second = refl;
  three_own = refl;
  three_paid_struck = refl;
  three_incurred_struck = refl;
  strike_closed = refl;
  strike_channel = refl;
  strike_behind = refl;
  strike_behind_incurred = refl;
  strike_alone = refl;
  strike_again = refl;
  strike_last = refl;
  strike_done = refl;
  strike_refused = refl;
  struck_forgotten = refl;
  struck_kept = refl;
  struck_marks = refl;
  observed_zero = refl;
  observed_at_the_bound = refl;
  observed_ratio = refl;
  observed_psi = refl;
  observed_flat = refl;
  observed_struck = refl;
  observed_three = refl;
  residues_closed = refl;
  residues_length_lem = (refl, refl, refl);
  residues_version = (refl, refl);
  residues_years = refl;
  residues_part = refl;
  residues_short = refl;
  residues_written = refl;
  residues_in_session = refl;
}
