-- The specification's examples that document 01 marks with a star ("Figures to agree on"), the page and the listing of F, F without
-- priors, F with the largest amounts, central ultimates, struck steps and residues by observations, together, computed from the
-- definitions.
use Rattle.std.specs.Prelude.{◌^◌, ◌≡◌, true, false, [], ◌∷◌, ◌++◌, pos, negsuc, replicate}
use Rattle.definitions.specs.Words.{part}
use Rattle.definitions.specs.Logarithm.{logarithm}
use Rattle.definitions.specs.Weight.{weight}
use Rattle.definitions.specs.Layout.{record_of, number_bytes}
use Rattle.definitions.specs.Refusals.{refuses, file_check}
use Rattle.definitions.specs.Refusals.{accepted}
use Rattle.definitions.specs.Matrix.{Φ, Ψ, figures_of, own, matrix, right_hand_side, passed, fails, judgement}
use Rattle.definitions.specs.Strikes.{step, unstruck, chain_left, figures_left}
use Rattle.definitions.specs.Text.{ascii}
use Rattle.definitions.specs.Page.{page_line, page_of}
use Rattle.definitions.specs.Ultimate.{ultimate_of}
use Rattle.definitions.specs.Machine.{open_file, residues as call_residues, close, refused, written, ultimate_is, struck_out, empty, holds, the_file, machine}
use Rattle.definitions.specs.Machine.{strike_call, residues_call}
use Rattle.definitions.specs.Kept.{observed_of, kept_of, with_struck}
use Rattle.definitions.specs.Programs.{listing, board_page}
use Rattle.definitions.specs.Examples.{1_in_8, 0_in_8, below_2^18_in_8, above_2^46_in_8, 2^46_in_8, 2^44_in_8, above_2^44_in_8, 10T_in_4}
use Rattle.definitions.specs.Examples.{file_of, file_F, flat_F, flat_from, amounts_F, opened_from, F, weights, mean, residues, page_of_F, ticks}
use Rattle.definitions.specs.Examples.{ultimate_of_F, small_latest, small_mean, ultimate_of_three, struck_F, apart_F, own_of_three, strike_of}
use Rattle.definitions.specs.Examples.{three_years, struck_from, observed_for, residues_of_F}
use Rattle.definitions.specs.Examples.{record_F, longer_F, versioned_F, longer_versioned_F, record_of_three, above_F}

pub record JointTable : Type 0 where
  pub log_of_1 : logarithm 1 ≡ 0
  pub log_of_2^40 : logarithm (2 ^ 40) ≡ 41943040
  pub log_of_2^44 : logarithm (2 ^ 44) ≡ 46137344
  pub log_of_3 : logarithm 3 ≡ 1661954
  pub weight_of_2^18 : weight (2 ^ 18) ≡ 2 ^ 28
  pub weight_of_2^46 : weight (2 ^ 46) ≡ 1
  pub F_accepted : accepted (file_F 1) ≡ true
  -- of x_(0,0), x_(0,1) and x_(1,0), and of z_(0,0)
  pub F_p : weights.p 0 0 ∷ weights.p 0 1 ∷ weights.p 1 0 ∷ [] ≡ 65536 ∷ 65536 ∷ 65536 ∷ []
  pub F_q : weights.q 0 0 ≡ 65536
  pub F_g : weights.g 0 ≡ 32768
  -- what a session keeps of F besides its figures
  pub F_observed :
      observed_of (file_F 1)
      ≡ record {
        logarithms = pos 10485760 ∷ pos 11534336 ∷ pos 10485760 ∷ pos 12582912 ∷ pos 11534336 ∷ pos 12582912 ∷ [];
        variances = 1073741824 ∷ 1073741824 ∷ 1073741824 ∷ [];
        weights = 65536 ∷ 65536 ∷ 65536 ∷ [];
        prior_weights = 1 ∷ 1 ∷ 1 ∷ [];
        ratio_weights = 32768 ∷ [];
        prior_means = mean 0 0;
      }
  pub F_own : F.own ≡ 131073 ∷ 65537 ∷ 65537 ∷ []
  pub F_matrix :
      F.matrix
      ≡ (pos 131073 ∷ pos 0 ∷ pos 0 ∷ [])
      ∷ (pos 0 ∷ pos 98305 ∷ negsuc 32767 ∷ [])
      ∷ (pos 0 ∷ negsuc 32767 ∷ pos 98305 ∷ [])
      ∷ []
  -- 1,310,730T, 131,073T, −131,073T
  pub F_right_hand : F.right_hand_side ≡ pos 1374400020480 ∷ pos 137440002048 ∷ negsuc 137440002047 ∷ []
  -- (10T, T, −T)
  pub zero_residues : residues (mean 0 0) ≡ pos 0 ∷ pos 0 ∷ pos 0 ∷ []
  pub zero_residues_pass : judgement F (part (mean 0 0)) ≡ passed
  -- (10T + 1, T, −T) and (10T + 2, T, −T)
  pub residue_at_the_bound : residues (mean 1 0) ≡ pos 131073 ∷ pos 0 ∷ pos 0 ∷ []
  pub one_tick_passes : judgement F (part (mean 1 0)) ≡ passed
  pub two_ticks_fail : judgement F (part (mean 2 0)) ≡ fails 0
  -- (10T, T + 1, −T), with e = 1 and with e = 2
  pub part_1_fails : judgement F (part (mean 0 1)) ≡ fails 1
  pub part_1_passes_with_e_2 : judgement (figures_of (file_F 2)) (part (mean 0 1)) ≡ passed
  -- document 02, the page of F
  pub F_page :
      page_of 1 (mean 0 0) F.own
      ≡ ascii "phi  0  10485760     131073\n"
      ++ ascii "phi  1   1048576      65537\n"
      ++ ascii "psi  0  -1048576      65537\n"
  -- the widest of its numbers, and the narrowest
  pub widest_line : page_line (Φ 15) (negsuc 67108863) 4563402752 ≡ ascii "phi 15 -67108864 4563402752\n"
  pub narrowest_line : page_line (Ψ 0) (pos 0) 64 ≡ ascii "psi  0         0         64\n"
  -- the call of F's page: 21, 24, 13; behind it stands what stood there
  pub F_page_closed : (page_of_F empty 84).answer ≡ refused 21 0
  pub F_page_failing : (page_of_F (holds F (mean 2 0) 0) 83).answer ≡ refused 24 0
  pub F_page_short : (page_of_F (holds F (mean 0 0) 0) 83).answer ≡ refused 13 0
  pub F_page_written : (page_of_F (holds F (mean 0 0) 0) 84).answer ≡ written
  pub F_page_behind : (page_of_F (holds F (mean 0 0) 0) 86).buffer ≡ page_of 1 (mean 0 0) F.own ++ 165 ∷ 165 ∷ []
  pub F_board_page : board_page (file_F 1) ≡ page_of 1 (mean 0 0) F.own
  pub F_listing : listing (file_F 1) ≡ ascii "J 1\nsweeps 0\nphi 0 10485760\nphi 1 1048576\npsi 0 -1048576\n"
  -- document 02, F without priors: it is accepted, and each prior weighs nothing
  pub weight_of_0 : weight 0 ≡ 0
  pub flat_accepted : accepted flat_F ≡ true
  pub flat_own : (figures_of flat_F).own ≡ 131072 ∷ 65536 ∷ 65536 ∷ []
  pub flat_matrix :
      (figures_of flat_F).matrix
      ≡ (pos 131072 ∷ pos 0 ∷ pos 0 ∷ [])
      ∷ (pos 0 ∷ pos 98304 ∷ negsuc 32767 ∷ [])
      ∷ (pos 0 ∷ negsuc 32767 ∷ pos 98304 ∷ [])
      ∷ []
  -- 1,310,720T, 131,072T, −131,072T
  pub flat_right_hand : (figures_of flat_F).right_hand_side ≡ pos 1374389534720 ∷ pos 137438953472 ∷ negsuc 137438953471 ∷ []
  -- the sweep starts at the prior means: those of F pass, and another one is held in its place and changes no figure
  pub flat_listing : listing flat_F ≡ listing (file_F 1)
  pub flat_start : opened_from 0 ≡ holds (figures_of flat_F) (pos 67108864 ∷ pos 1048576 ∷ negsuc 1048575 ∷ []) 0
  -- and a prior mean has its limits without a prior too
  pub flat_mean_above : file_check (flat_from 1) ≡ refuses 8 34
  -- one part without a prior, first or last
  pub flat_first : (figures_of (file_of 1 10T_in_4 0_in_8 2^46_in_8 2^46_in_8)).own ≡ 131072 ∷ 65537 ∷ 65537 ∷ []
  pub flat_last : (figures_of (file_of 1 10T_in_4 2^46_in_8 2^46_in_8 0_in_8)).own ≡ 131073 ∷ 65537 ∷ 65536 ∷ []
  -- all else below 2^18 is refused, and what is above 2^46, at the first such variance
  pub prior_variance_1 : file_check (file_of 1 10T_in_4 1_in_8 2^46_in_8 2^46_in_8) ≡ refuses 7 38
  pub prior_variance_below : file_check (file_of 1 10T_in_4 0_in_8 below_2^18_in_8 0_in_8) ≡ refuses 7 50
  pub prior_variance_above : file_check (file_of 1 10T_in_4 0_in_8 0_in_8 above_2^46_in_8) ≡ refuses 7 62
  -- document 02, amounts to 2^44: in every cell, and beside 1 in the paid step, the incurred step and the last ratio
  pub largest_accepted : accepted (amounts_F 2^44_in_8 2^44_in_8 2^44_in_8 2^44_in_8 2^44_in_8) ≡ true
  -- 10T + 65,536·88T, T, −T
  pub largest_right_hand :
      (figures_of (amounts_F 2^44_in_8 2^44_in_8 2^44_in_8 2^44_in_8 2^44_in_8)).right_hand_side
      ≡ pos 6047324438528 ∷ pos 1048576 ∷ negsuc 1048575 ∷ []
  -- 10T, T + (65,536 + 32,768)·44T, −T + (65,536 − 32,768)·44T
  pub beside_1_right_hand :
      (figures_of (amounts_F 1_in_8 2^44_in_8 1_in_8 1_in_8 2^44_in_8)).right_hand_side
      ≡ pos 10485760 ∷ pos 4535486513152 ∷ pos 1511827439616 ∷ []
  -- and 2^44 + 1 is refused, in the first and the last cell of each block
  pub paid_first_above : file_check (amounts_F above_2^44_in_8 2^44_in_8 2^44_in_8 2^44_in_8 2^44_in_8) ≡ refuses 9 70
  pub paid_last_above : file_check (amounts_F 1_in_8 2^44_in_8 above_2^44_in_8 above_2^44_in_8 2^44_in_8) ≡ refuses 9 86
  pub incurred_first_above : file_check (amounts_F 1_in_8 2^44_in_8 1_in_8 above_2^44_in_8 0_in_8) ≡ refuses 9 94
  pub incurred_last_above : file_check (amounts_F 1_in_8 2^44_in_8 1_in_8 1_in_8 above_2^44_in_8) ≡ refuses 9 110
  -- and so is 0
  pub amount_0 : file_check (amounts_F 1_in_8 2^44_in_8 0_in_8 1_in_8 1_in_8) ≡ refuses 9 86
  -- document 02, the central ultimate of F's year 1: 11T, and 11T and a half where Φ_1 is one tick more
  pub F_ultimate : ultimate_of_F (holds (file_F 1) (mean 0 0) 0) 1 ≡ ultimate_is (ticks (pos 11534336) 0 2147483648)
  pub F_ultimate_half : ultimate_of_F (holds (file_F 2) (mean 0 1) 0) 1 ≡ ultimate_is (ticks (pos 11534336) 1073741824 2147483648)
  -- 21, 24, 25
  pub F_ultimate_closed : ultimate_of_F empty 0 ≡ refused 21 0
  pub F_ultimate_failing : ultimate_of_F (holds (file_F 1) (mean 2 0) 0) 0 ≡ refused 24 0
  pub F_ultimate_year_0 : ultimate_of_F (holds (file_F 1) (mean 0 0) 0) 0 ≡ refused 25 0
  pub F_ultimate_year_2 : ultimate_of_F (holds (file_F 1) (mean 0 0) 0) 2 ≡ refused 25 0
  -- 7·(11 − 30) + 3·(13 − 50) over 3 + 7, and 12·(17 + 20 − 30) + 5·(19 + 4 − 50) over 5 + 12: rounded down, not toward 0
  pub small_ultimate_1 : ultimate_of 2 small_latest 1 (part small_mean) ≡ ticks (negsuc 24) 6 10
  pub small_ultimate_2 : ultimate_of 2 small_latest 2 (part small_mean) ≡ ticks (negsuc 2) 0 17
  -- of a file with J = 2 years 1 and 2, (2 + 4) / 2 and (1 + 2 + 3 + 4) / 2 by the mean (0, 1, 2, 3, 4), and no others
  pub three_ultimates :
      ultimate_of_three 1 ∷ ultimate_of_three 2 ∷ []
      ≡ ultimate_is (ticks (pos 3) 0 2147483648) ∷ ultimate_is (ticks (pos 5) 0 4294967296) ∷ []
  pub three_refusals : ultimate_of_three 0 ∷ ultimate_of_three 3 ∷ [] ≡ refused 25 0 ∷ refused 25 0 ∷ []
  -- document 02, F without x_(0,0)
  pub struck_own : (figures_left struck_F).own ≡ 65537 ∷ 65537 ∷ 65537 ∷ []
  pub struck_matrix :
      (figures_left struck_F).matrix
      ≡ (pos 65537 ∷ pos 0 ∷ pos 0 ∷ [])
      ∷ (pos 0 ∷ pos 98305 ∷ negsuc 32767 ∷ [])
      ∷ (pos 0 ∷ negsuc 32767 ∷ pos 98305 ∷ [])
      ∷ []
  -- 655,370T, 131,073T, −131,073T
  pub struck_right_hand : (figures_left struck_F).right_hand_side ≡ pos 687205253120 ∷ pos 137440002048 ∷ negsuc 137440002047 ∷ []
  -- 10T + 65,536·44T without x_(0,0) = 0, and 10T without x_(1,0) = 44T
  pub struck_first : part (figures_left (apart_F (step 0 0 0))).right_hand_side 0 ≡ pos 3023667462144
  pub struck_second : part (figures_left (apart_F (step 0 1 0))).right_hand_side 0 ≡ pos 10485760
  -- with J = 2 one more of the paid steps and two of the incurred ones
  pub three_own : own_of_three [] ≡ 196608 ∷ 131072 ∷ 65536 ∷ 131072 ∷ 65536 ∷ []
  pub three_paid_struck : own_of_three (step 0 1 1 ∷ step 0 2 0 ∷ []) ≡ 131072 ∷ 65536 ∷ 65536 ∷ 131072 ∷ 65536 ∷ []
  pub three_incurred_struck : own_of_three (step 1 1 0 ∷ []) ≡ 196608 ∷ 131072 ∷ 65536 ∷ 65536 ∷ 65536 ∷ []
  -- 21, 14, 26, 27: in this order, and 26 and 27 at the ends of both triangles
  pub strike_closed : (strike_call the_file empty (step 2 9 9)).answer ≡ refused 21 0
  pub strike_channel : (strike_of (unstruck (file_F 1)) (step 2 9 9)).answer ≡ refused 14 0
  pub strike_behind : (strike_of (unstruck (file_F 1)) (step 0 2 0)).answer ∷ (strike_of (unstruck (file_F 1)) (step 0 1 1)).answer ∷ []
      ≡ refused 26 0 ∷ refused 26 0 ∷ []
  pub strike_behind_incurred : (strike_of (unstruck (file_F 1)) (step 1 1 0)).answer ∷ (strike_of (unstruck (file_F 1)) (step 1 0 1)).answer
      ∷ []
      ≡ refused 26 0 ∷ refused 26 0 ∷ []
  pub strike_alone : (strike_of (unstruck (file_F 1)) (step 0 0 1)).answer ∷ (strike_of (unstruck (file_F 1)) (step 1 0 0)).answer ∷ []
      ≡ refused 27 0 ∷ refused 27 0 ∷ []
  pub strike_again : (strike_of struck_F (step 0 0 0)).answer ≡ refused 26 0
  pub strike_last : (strike_of struck_F (step 0 1 0)).answer ≡ refused 27 0
  -- the mean goes back to the prior means and the total to 0; a refusal leaves both
  pub strike_done : strike_of (unstruck (file_F 1)) (step 0 0 0)
      ≡ record { answer = struck_out; state = holds struck_F (mean 0 0) 0; buffer = [] }
  pub strike_refused : (strike_of struck_F (step 0 1 0)).state ≡ holds struck_F (mean 2 0) 7
  -- close forgets what is struck
  pub struck_forgotten : (machine (machine (holds struck_F (mean 2 0) 7) close).state (open_file (file_F 1))).state
      ≡ holds (unstruck (file_F 1)) (mean 0 0) 0
  -- what a session keeps then
  pub struck_kept : with_struck (step 0 0 0) (kept_of (unstruck (file_F 1))) ≡ kept_of struck_F
  pub struck_marks : (kept_of struck_F).struck ≡ (true ∷ false ∷ []) ∷ (false ∷ []) ∷ (false ∷ []) ∷ []
  -- document 02, residues by observations: of F those that the matrix gives
  pub observed_zero : observed_for (unstruck (file_F 1)) (mean 0 0) ≡ pos 0 ∷ pos 0 ∷ pos 0 ∷ []
  pub observed_at_the_bound : observed_for (unstruck (file_F 1)) (mean 1 0) ≡ pos 131073 ∷ pos 0 ∷ pos 0 ∷ []
  pub observed_ratio : observed_for (unstruck (file_F 1)) (mean 0 1) ≡ pos 0 ∷ pos 98305 ∷ negsuc 32767 ∷ []
  -- (10T, T, −T + 1)
  pub observed_psi :
      observed_for (unstruck (file_F 1)) (pos 10485760 ∷ pos 1048576 ∷ negsuc 1048574 ∷ []) ≡ pos 0 ∷ negsuc 32767 ∷ pos 98305 ∷ []
  -- without priors, and without x_(0,0)
  pub observed_flat : observed_for (unstruck flat_F) (mean 1 1) ≡ pos 131072 ∷ pos 98304 ∷ negsuc 32767 ∷ []
  pub observed_struck : observed_for struck_F (mean 1 1) ≡ pos 65537 ∷ pos 98305 ∷ negsuc 32767 ∷ []
  -- with J = 2 two ratios, by g of 16,384 and 32,768: they miss by 1 + 2 − 3 − 4 and 2 − 4
  pub observed_three :
      observed_for (struck_from three_years (step 1 1 0 ∷ [])) (pos 0 ∷ pos 1 ∷ pos 2 ∷ pos 3 ∷ pos 4 ∷ [])
      ≡ pos 0 ∷ pos 65536 ∷ pos 0 ∷ pos 262144 ∷ pos 393216 ∷ []
  -- the call: 21, of the record 1, 2, 4 and 11, then 13
  pub residues_closed :
      residues_call chain_left empty [] (165 ∷ []) ≡ record { answer = refused 21 0; state = empty; buffer = 165 ∷ [] }
  pub residues_length_lem : ((residues_of_F [] 23).answer ≡ refused 1 0) × ((residues_of_F longer_F 23).answer ≡ refused 1 0)
      × ((residues_of_F (0 ∷ longer_versioned_F) 23).answer ≡ refused 1 0)
  pub residues_version : ((residues_of_F versioned_F 23).answer ≡ refused 2 4)
      × ((residues_of_F longer_versioned_F 23).answer ≡ refused 2 4)
  pub residues_years : (residues_of_F record_of_three 23).answer ≡ refused 4 0
  pub residues_part : (residues_of_F above_F 23).answer ≡ refused 11 9
  pub residues_short : residues_of_F record_F 23 ≡ record {
    answer = refused 13 0;
    state = holds (unstruck (file_F 1)) (mean 2 0) 7;
    buffer = replicate 23 165;
  }
  -- of the record's mean and not of the one that is held; behind them stands what stood there
  pub residues_written : residues_of_F record_F 26 ≡ record {
    answer = written;
    state = holds (unstruck (file_F 1)) (mean 2 0) 7;
    buffer =
        0 ∷ 0 ∷ 0 ∷ 0 ∷ 0 ∷ 0 ∷ 0 ∷ 0
        ∷ 0 ∷ 0 ∷ 0 ∷ 0 ∷ 0 ∷ 1 ∷ 128 ∷ 1
        ∷ 255 ∷ 255 ∷ 255 ∷ 255 ∷ 255 ∷ 255 ∷ 128 ∷ 0
        ∷ 165 ∷ 165 ∷ [];
  }
  -- without what is struck
  pub residues_in_session : (machine (holds struck_F (mean 0 0) 0) (call_residues (record_of 1 (mean 1 1)) (replicate 24 0))).buffer
      ≡ number_bytes 8 0 3 (pos 65537 ∷ pos 98305 ∷ negsuc 32767 ∷ [])
