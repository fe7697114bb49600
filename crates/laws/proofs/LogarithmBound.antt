-- The specification's claims about the logarithm: 2^(2L) ≤ 2·a^(2T) < 2^(2L+3), and sharper above, 511·a^(2T) < 512·2^(2L+1). They are
-- drawn from a law of any number k of squarings up to 28: 2^l ≤ a^t < 2^(l+2), where l is h with the bits of k squarings behind it, and t
-- is 2^k.
--
-- After each squaring y and the bits l so far bracket the power p of the amount: 2^l·y ≤ p·N, and p·N·N^c ≤ 2^l·y·(N + 1)^c, where
-- N is 2^31 and c counts the roundings so far, of which a squaring doubles those before it and adds one.
use Rattle.std.specs.Prelude.{ℕ, zero, suc, ◌+◌, ◌*◌, ◌-◌, ◌/◌, ◌^◌, ◌≤◌, ◌<◌, ◌≡◌, refl, Bool, not, cond, T, leb}
use Rattle.std.proofs.Common.{sym, ap, ◌∙◌, subst, mul-zero, mul-suc, le_trans, le_of_eq, lt_of_lt_of_le, mul-le-mul, mul-le-mul_left, mul-le-mul_right}
use Rattle.std.proofs.Common.{div-mul-le_self, le-div_iff_mul-le, div-lt_iff_lt-mul, pow-suc, leb→le, lit<, pow-add, pow_pos, pow_mono}
use Rattle.std.proofs.Math.Bool.{true, false}
use Rattle.std.proofs.Math.Nat.{le_of_mul-le-mul_left, lt_of_mul-lt-mul_left, lt-div-mul-add, pow-zero, pow-le-pow_left, one-le-pow, two-pow-succ}
use native.Mathlib.Omega.{arith, by_contra}
use Rattle.std.proofs.Math.Dec.{nleb→lt}
use Rattle.std.proofs.Math.Pow.{pow-lt}
use Rattle.std.proofs.lemmas.Nat.{leading_top}
use Rattle.definitions.specs.Logarithm.{ticks_per_doubling, highest_bit, start_from, next_bit, next_Y, bits_of, squarings, logarithm}
use Rattle.laws.specs.LogarithmBits.{log_in}
use Rattle.laws.proofs.LogarithmBits.{logarithm_run}
use Rattle.laws.specs.LogarithmBound.{Bracket, LogarithmBound, N, NearestTick}

-- ---- one squaring, with B for 2^(the bit), L for 2^l, P and Q for the powers of N and N + 1; z is y afterwards

module _ (n p L y z B P Q : ℕ) where
  square_low : 0 < n → L * y ≤ p * n → z * (n * B) ≤ y * y → L * L * B * z ≤ p * p * n
  square_low pos h d =
      le_of_mul-le-mul_left {k = n} (omega (arith, mul-le-mul h h, mul-le-mul_left (L * L) d)) pos

  square_high : n ≤ z → y * y < z * (n * B) + n * B → 0 < n → p * n * P ≤ L * y * Q
      → p * p * n * (P * P * n) ≤ L * L * B * z * (Q * Q * (n + 1))
  square_high from d pos h =
      let rounded : y * y ≤ B * ((n + 1) * z) =
      le_of_mul-le-mul_left {k = n} (omega (arith, mul-le-mul_left n d, mul-le-mul_left (n * B) from)) pos in
      omega (arith, mul-le-mul h h, mul-le-mul_left (L * L * Q * Q) rounded)

-- ---- the end: 2^l ≤ p < 2^(l+2), as (N + 1)^c is at most N / (N − c) times N^c, which is twice it or less while 2·c ≤ N

few_roundings : (n c d : ℕ) → c + d ≡ n → (n + 1) ^ c * d ≤ n ^ c * n
few_roundings n zero d e = rw (pow-zero (n + 1), pow-zero n) (omega arith)
few_roundings n (suc c) d e =
    let before = few_roundings n c (d + 1) (omega arith) in
    rw (pow-suc (n + 1) c, pow-suc n c)
    (omega (arith, mul-le-mul_left n before, mul-le-mul_left ((n + 1) ^ c) (step (omega arith))))
  where
    step : d ≤ n → (n + 1) * d ≤ n * (d + 1)
    step h = omega arith

ends_low : {p l y c : ℕ} → Bracket p l y c → 2 ^ l ≤ p
ends_low {p} {l} {y} b = le_of_mul-le-mul_left {k = N} (omega (arith, b.low, mul-le-mul_left (2 ^ l) b.from_N)) (pow_pos 31)

ends_near : {p l y c : ℕ} → Bracket p l y c → c ≤ N → (N - c) * p < N * 2 ^ (l + 1)
ends_near {p} {l} {y} {c} b few =
    rw (pow-add 2 l 1)
    (lt_of_mul-lt-mul_left (N * N ^ c)
    (strictly N p (2 ^ l) y (N ^ c) ((N + 1) ^ c) (N - c) b.high b.to_2N (few_roundings N c (N - c) (omega arith))
    (mul-le-mul (mul-le-mul (pow_pos l) (one-le-pow c N (lit< tt))) (pow_pos 31))))
  where
    strictly : (n p L y P Q d : ℕ) → p * n * P ≤ L * y * Q → y < 2 * n → Q * d ≤ P * n → 1 * 1 * 1 ≤ L * P * n
        → n * P * (d * p) < n * P * (n * (L * 2))
    strictly n p L y P Q d h small q positive =
        omega (arith, mul-le-mul_left d h, mul-le-mul_left (L * y) q, mul-le-mul_left (L * P * n) small)

ends_high : {p l y c : ℕ} → Bracket p l y c → 2 * c ≤ N → p < 2 ^ (l + 2)
ends_high {p} {l} {y} {c} b few =
    let half : N ≤ 2 * (N - c) = omega arith in
    lt_of_mul-lt-mul_left N (omega (arith, ends_near b (omega arith), mul-le-mul_right p half, pow-add 2 l 2, pow-add 2 l 1))

-- ---- one squaring by the definition

-- the two cases of a squaring share their proof, with the bit as a parameter
squared : {p l y c : ℕ} (bit z : ℕ) → Bracket p l y c → N ≤ z → z < 2 * N
    → z * (N * 2 ^ bit) ≤ y * y → y * y < z * (N * 2 ^ bit) + N * 2 ^ bit
    → Bracket (p * p) (2 * l + bit) z (2 * c + 1)
squared {p} {l} {y} {c} bit z b from below low high = record {
  low = rw (exponent l bit) (square_low N p (2 ^ l) y z (2 ^ bit) (N ^ c) ((N + 1) ^ c) (pow_pos 31) b.low low);
  high = rw (exponent l bit, odd_power N c, odd_power (N + 1) c)
      (square_high N p (2 ^ l) y z (2 ^ bit) (N ^ c) ((N + 1) ^ c) from high (pow_pos 31) b.high);
  from_N = from;
  to_2N = below;
}
  where
    exponent : (l bit : ℕ) → 2 ^ (2 * l + bit) ≡ 2 ^ l * 2 ^ l * 2 ^ bit
    exponent l bit = pow-add 2 (2 * l) bit ∙ ap (λ n. 2 ^ n * 2 ^ bit) (double l) ∙ ap (λ n. n * 2 ^ bit) (pow-add 2 l l)
      where
        double : (l : ℕ) → 2 * l ≡ l + l
        double l = omega arith

    odd_power : (n c : ℕ) → n ^ (2 * c + 1) ≡ n ^ c * n ^ c * n
    odd_power n c = ap (λ k. n ^ k) (odd c) ∙ pow-suc n (c + c) ∙ ap (λ k. k * n) (pow-add n c c)
      where
        odd : (c : ℕ) → 2 * c + 1 ≡ suc (c + c)
        odd c = omega arith

one_squaring : {p l y c : ℕ} → Bracket p l y c → Bracket (p * p) (2 * l + next_bit y) (next_Y y) (2 * c + 1)
unfolding next_bit next_Y
one_squaring {p} {l} {y} {c} b = by_bit (leb (2 ^ 63) (y * y)) (leb→le (2 ^ 63) (y * y)) (nleb→lt (2 ^ 63) (y * y))
  where
    least : N * N ≤ y * y
    least = mul-le-mul b.from_N b.from_N

    most : suc y * suc y ≤ 2 * N * (2 * N)
    most = mul-le-mul b.to_2N b.to_2N

    by_bit : (t : Bool) → (T t → 2 ^ 63 ≤ y * y) → (T (not t) → y * y < 2 ^ 63)
        → Bracket (p * p) (2 * l + cond t 1 0) (cond t (y * y / 2 ^ 32) (y * y / 2 ^ 31)) (2 * c + 1)
    by_bit true at_least below =
        let h = at_least tt in squared 1 (y * y / 2 ^ 32) b (omega arith) (omega (arith, most)) (omega arith) (omega arith)
    by_bit false at_least below =
        let h = below tt in squared 0 (y * y / 2 ^ 31) b (omega (arith, least)) (omega arith) (omega arith) (omega arith)

-- ---- k squarings

-- the roundings after k squarings
roundings : ℕ → ℕ → ℕ
roundings zero c = c
roundings (suc k) c = roundings k (2 * c + 1)

roundings_are : (k c : ℕ) → roundings k c + 1 ≡ 2 ^ k * (c + 1)
unfolding roundings
roundings_are zero c = omega arith
roundings_are (suc k) c = roundings_are k (2 * c + 1) ∙ rw (pow-suc 2 k) (omega arith)

square_of_power : (p n : ℕ) → (p * p) ^ n ≡ p ^ n * p ^ n
square_of_power p zero = rw (pow-zero (p * p), pow-zero p) refl
square_of_power p (suc n) = rw (pow-suc (p * p) n, pow-suc p n, square_of_power p n) (omega arith)

record Squared (k p l y c : ℕ) : Type 0 where
  rest : ℕ
  bracket : Bracket (p ^ (2 ^ k)) (bits_of k y l) rest (roundings k c)

all_squarings : (k : ℕ) {p l y c : ℕ} → Bracket p l y c → Squared k p l y c
unfolding bits_of roundings
all_squarings zero {p} {l} {y} {c} b =
    let one : p ≡ p ^ (2 ^ 0) = sym (pow-suc p 0 ∙ rw (pow-zero p) (omega arith)) in
    record { rest = y; bracket = subst (λ q. Bracket q l y c) one b }
all_squarings (suc k) {p} {l} {y} {c} b =
    let after = all_squarings k (one_squaring b) in record {
      rest = after.rest;
      bracket =
          subst (λ q. Bracket q (bits_of k (next_Y y) (2 * l + next_bit y)) after.rest (roundings k (2 * c + 1)))
          (square_of_power p (2 ^ k) ∙ sym (pow-add p (2 ^ k) (2 ^ k)) ∙ ap (λ n. p ^ n) (sym (two-pow-succ k)))
          after.bracket;
    }

-- ---- the start: h bits stand behind the first one

module _ (a h : ℕ) (from : 2 ^ h ≤ a) (to : a < 2 ^ suc h) where
  -- shifted up, with nothing lost
  started_up : h ≤ 31 → Bracket a h (a * 2 ^ (31 - h)) 1
  started_up short =
      let D : ℕ = 2 ^ (31 - h) in
      let whole : 2 ^ h * D ≡ N = sym (pow-add 2 h (31 - h)) ∙ ap (λ n. 2 ^ n) (back short) in
      let below : suc a * D ≤ 2 ^ h * 2 * D = mul-le-mul_right D (subst (λ n. suc a ≤ n) (pow-suc 2 h) to) in
      record {
        low = omega (arith, ap (λ n. a * n) whole);
        high = omega (arith, ap (λ n. a * n) whole);
        from_N = omega (arith, mul-le-mul_right D from);
        to_2N = omega (arith, below, pow_pos (31 - h));
      }
    where
      back : h ≤ 31 → h + (31 - h) ≡ 31
      back short = omega arith

  -- shifted down, with one rounding
  started_down : 31 < h → Bracket a h (a / 2 ^ (h - 31)) 1
  started_down long =
      let D : ℕ = 2 ^ (h - 31) in
      let positive : 0 < D = pow_pos (h - 31) in
      let whole : 2 ^ h ≡ N * D = ap (λ n. 2 ^ n) (back long) ∙ pow-add 2 31 (h - 31) in
      let from_N : N ≤ a / D = (le-div_iff_mul-le positive).1 (omega arith) in
      let to_2N : a / D < 2 * N = (div-lt_iff_lt-mul positive).1 (omega (arith, subst (λ n. suc a ≤ n) (pow-suc 2 h) to)) in
      record {
        low = rw whole (omega (arith, div-mul-le_self a D));
        high = rw whole (omega (arith, lt-div-mul-add {a = a} positive, mul-le-mul_right D from_N));
        from_N = from_N;
        to_2N = to_2N;
      }
    where
      back : 31 < h → h ≡ 31 + (h - 31)
      back long = omega arith

  started : Bracket a h (start_from h a) 1
  unfolding start_from
  started = by_case (leb h 31) (leb→le h 31) (nleb→lt h 31)
    where
      by_case : (t : Bool) → (T t → h ≤ 31) → (T (not t) → 31 < h) → Bracket a h (cond t (a * 2 ^ (31 - h)) (a / 2 ^ (h - 31))) 1
      by_case true short long = started_up (short tt)
      by_case false short long = started_down (long tt)

-- ---- the logarithm

-- for an amount of 64 bits and up to 28 squarings
pub log_in_bound : (k a : ℕ) → k ≤ 28 → 1 ≤ a → a < 2 ^ 64 → LogarithmBound a (2 ^ k) (log_in k a)
unfolding highest_bit
log_in_bound k a few one small =
    let top = leading_top 64 a one small in
    let place : highest_bit a ≡ top.0 = omega (arith, top.1) in
    let start = started a (highest_bit a) (rw place top.2) (rw place top.3) in
    let after = all_squarings k start in
    let rounded : roundings k 1 + 1 ≡ 2 * 2 ^ k = omega (arith, roundings_are k 1) in
    let left : 2 ^ 31 + 1 - 2 * 2 ^ k ≡ N - roundings k 1 = omega arith in
    record {
      at_least = ends_low after.bracket;
      less_than = ends_high after.bracket (omega (arith, pow_mono few));
      nearly = rw left (ends_near after.bracket (omega (arith, pow_mono few)));
    }

-- an amount of at most 2^b has a logarithm of at most b doublings
pub log_in_at_most : (k a b : ℕ) → k ≤ 28 → 1 ≤ a → a ≤ 2 ^ b → b < 64 → log_in k a ≤ b * 2 ^ k
log_in_at_most k a b few one small short =
    let bound = log_in_bound k a few one (omega (arith, pow-lt short)) in
    let power : a ^ (2 ^ k) ≤ 2 ^ (b * 2 ^ k) = le_trans (pow-le-pow_left small (2 ^ k)) (le_of_eq (power_of_power b (2 ^ k))) in
    pow_reflects (log_in k a) (b * 2 ^ k) (le_trans bound.at_least power)
  where
    pow_reflects : (i j : ℕ) → 2 ^ i ≤ 2 ^ j → i ≤ j
    pow_reflects i j h = by_contra i j (λ less. omega (arith, pow-lt less))

    power_of_power : (b n : ℕ) → (2 ^ b) ^ n ≡ 2 ^ (b * n)
    power_of_power b zero = pow-zero (2 ^ b) ∙ ap (λ n. 2 ^ n) (sym (mul-zero b))
    power_of_power b (suc n) =
        pow-suc (2 ^ b) n ∙ ap (λ x. x * 2 ^ b) (power_of_power b n) ∙ sym (pow-add 2 (b * n) b) ∙ ap (λ n. 2 ^ n) (sym (mul-suc b n))

-- ---- rounded from half ticks

-- l half ticks are 2·(l rounded) of them, or one fewer
pub to_the_nearest : (a t l : ℕ) → LogarithmBound a (2 * t) l → NearestTick a t ((l + 1) / 2)
to_the_nearest a t l bound =
    let up : 2 * ((l + 1) / 2) ≤ l + 1 = omega arith in
    let down : l ≤ 2 * ((l + 1) / 2) = omega arith in
    record {
      at_least = le_trans (pow_mono up) (omega (arith, pow-add 2 l 1, bound.at_least));
      less_than =
          lt_of_lt_of_le (omega (arith, pow-add 2 l 2, pow-add 2 l 3, bound.less_than)) (pow_mono {i = l + 3} (omega arith));
      nearly = lt_of_lt_of_le bound.nearly (mul-le-mul_left (2 ^ 31) (pow_mono {i = l + 1} (omega arith)));
    }

-- of every amount of 64 bits
pub logarithm_bound : (a : ℕ) → 1 ≤ a → a < 2 ^ 64 → NearestTick a ticks_per_doubling (logarithm a)
logarithm_bound a one small =
    rw (logarithm_run a) (to_the_nearest a ticks_per_doubling (log_in squarings a) (log_in_bound squarings a (omega arith) one small))

-- an amount of at most 2^b has a logarithm of at most b doublings
pub logarithm_at_most : (a b : ℕ) → 1 ≤ a → a ≤ 2 ^ b → b < 64 → logarithm a ≤ b * ticks_per_doubling
logarithm_at_most a b one small short = omega (arith, logarithm_run a, log_in_at_most squarings a b (omega arith) one small short)
