-- Laws of the whole numbers ℤ of `lib.IntN` and `lib.Signed`, beside those that are proved there. To search, not to read.
--
-- Tools, each with its call:
--   ring (a ∷ b ∷ []) (λ a b. LEFT ≐ RIGHT) tt         an equation of polynomials, over ⊞ ⊟ ⊠ ⊖ and `num k`           Solver
--   simp linear (omega arith)                          what is linear, from hypotheses that are still arguments       Linear
--   simp linear (omega (zarith, simp linear at h))     the same, from hypotheses with names                           Linear
--   excess (ring .. (λ .. RIGHT ⊟ LEFT ≐ CERTIFICATE) tt) (search nonneg)      LEFT ≤ RIGHT, where it is not linear    Certificate
--
-- Laws by kind:
--   a number as a difference of naturals   Is, is, is_add, is_sub, is_neg, is_mul, is_unique; pos_part, neg_part         Ring
--   ring                   *ℤ-+ℤ, +ℤ-*ℤ, neg_ℤ-*ℤ, *ℤ_idl, *ℤ_idr, +ℤ_exchange, ≡ℤ_is_zero                              Ring
--   linear order           ≤ℤ_trans, ≤ℤ_total, ≤ℤ_or-<ℤ, ≤ℤ_of-≡, ≤ℤ_of-<ℤ                                              Order
--   order as a difference  ≤ℤ_is_nonneg                                                                                Order
--   order beside ℕ         pos-≤, pos-<, pos_nonneg, nonneg_pos                                                        Order
--   order of sums          +ℤ_mono, neg_ℤ_anti, +ℤ_nonneg                                                               Order
--   order of products      *ℤ_nonneg, *ℤ_positive, square_nonneg, square_positive, *ℤ_mono                             Order
--   a mixed term           mixed-≤, mixed_neg-≤                                                                        Certificate
--   size                   nat_abs-≤, nat_abs-<, nat_abs_parts                                                            Linear
--                          nat_abs_neg, nat_abs-+, nat_abs--, nat_abs-*, nat_abs-*-≤, nat_abs_square                         Size
--   signed bits            fits, kept                                                                                  Size
--   read back, by its sign stored, read, same; negative, nonnegative      Bits
--   rounded down           floor_div, floor-≤, floor-<, floor_unique, floor_half                                        Floor
--                          floor_rest, floor_rest_nonneg, floor_rest-<                                                  Floor
--   what is summed         sum, and total over ℕ; `Sum` passes both on                                                 Summation
--   sum, by one term       sum_zero, sum_suc, sum_next                                                                 Sum
--   sum, term by term      sum_cong, sum-+, sum--, sum_neg, sum_scale, sum_scale_right, sum_const, sum_zeros           Sum
--   double sums            sum_swap                                                                                    Sum
--   sum over a range       sum_split, sum_first, sum_reverse, sum_one, sum_below, sum_from                             SumRange
--   what a test picks      only, only_yes, only_no, only_same, only_apart                                              SumRange
--   sum and order          sum_mono, sum_nonneg, sum_term, sum_positive                                                SumOrder
--   sum of naturals        total_zero, total_suc, total_next, total_cong, total-+, total_scale_right,
--                          total_mono, total_bound, total_const, total_split, total_first, total_grows, total_term,
--                          pos_total                                                                                   Total
--   sum of sizes           sizes, sum_size; else the laws of total                                                     Total
--
-- Names. A law is named by its left side read in order, as in the kit: `*ℤ-+ℤ` is about x · (y + z), `neg_ℤ-*ℤ` about (−x) · y; so of
-- a sum or a size, `sum-+` is about the sum of f k + g k and `nat_abs-*` about |a · b|. `_is_` states a ↔, whose halves are `.0` and
-- `.1`; so do `pos-≤`, `pos-<`, `nat_abs-≤` and `nat_abs-<`. `_next` is at n + 1, as code counts, and `_suc` at `suc n`. `_mono` keeps an
-- order and `_anti` turns it. `_nonneg` ends in 0 ≤ .., `_positive` in 0 < ... `◌≤ℤ◌` and `◌<ℤ◌` bind tighter than `◌+ℤ◌`: their sides
-- stand in parentheses.
pub mod Bits
pub mod Certificate
pub mod Floor
pub mod Linear
pub mod Order
pub mod Ring
pub mod Size
pub mod Solver
pub mod Sum
pub mod SumOrder
pub mod SumRange
pub mod Summation
pub mod Total
