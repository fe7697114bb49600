-- What the loops over cells and parts go by.
use Rattle.std.specs.Prelude.{ℕ, ◌+◌, ◌≤◌, ◌<◌, ◌≡◌, List, ℤ, pos, length, set}
use Rattle.std.proofs.Common.{subst, ◌∙◌, arith, length-set}
use Rattle.definitions.specs.Layout.{Bytes, last_year, variance_of, prior_variance, prior_mean, amount}
use Rattle.definitions.specs.Weight.{weight}
use Rattle.definitions.specs.Observations.{log_of}
use Rattle.laws.proofs.Cells.{cells_few}
use Rattle.laws.proofs.Runs.{run_next, run_beside}
use Rattle.observations.specs.Reading.{CellsTo, Logarithms, PartsTo, OfPart, OfParts}

-- ---- cells

pub cells_none : {f : Bytes} {ticks : List ℤ} → length ticks ≡ 303 → CellsTo 0 f ticks
cells_none long = record { long = long; there = λ c below. absurd (omega arith) }

pub cells_to : {n m : ℕ} {f : Bytes} {ticks : List ℤ} → n ≡ m → CellsTo n f ticks → CellsTo m f ticks
cells_to {f = f} {ticks} e h = subst (λ n. CellsTo n f ticks) e h

pub cells_next : {n : ℕ} {f : Bytes} {ticks : List ℤ} {z : ℤ} → CellsTo n f ticks → n < 272 → z ≡ log_of (amount f n)
    → CellsTo (n + 1) f (set ticks n z)
cells_next {n} {f} {ticks} {z} h below e = record {
  long = length-set ticks n z ∙ h.long;
  there = run_next (pos 0) (λ i. i) ticks h.there (omega (arith, h.long)) (λ i before same. omega arith) e;
}

-- four more
pub cells_four : {c : ℕ} {f : Bytes} {ticks : List ℤ} {z₀ z₁ z₂ z₃ : ℤ} → CellsTo c f ticks → c + 4 ≤ 272
    → z₀ ≡ log_of (amount f c) → z₁ ≡ log_of (amount f (c + 1)) → z₂ ≡ log_of (amount f (c + 2)) → z₃ ≡ log_of (amount f (c + 3))
    → CellsTo (c + 4) f (set (set (set (set ticks c z₀) (c + 1) z₁) (c + 2) z₂) (c + 3) z₃)
cells_four {c} h room first second third fourth =
    let two = cells_to {m = c + 2} (omega arith) (cells_next (cells_next h (omega arith) first) (omega arith) second) in
    let three = cells_to {m = c + 3} (omega arith) (cells_next two (omega arith) third) in
    cells_to (omega arith) (cells_next three (omega arith) fourth)

-- ---- parts

pub parts_none : {f : Bytes} {ticks : List ℤ} {weights variances : List ℕ} → OfParts f ticks weights variances
    → PartsTo 0 f ticks weights variances
parts_none h = record {
  logarithms = h.logarithms;
  weights_long = h.weights_long;
  variances_long = h.variances_long;
  variances_are = λ k below. absurd (omega arith);
  weights_are = λ k below. absurd (omega arith);
  priors_are = λ k below. absurd (omega arith);
  means_are = λ k below. absurd (omega arith);
}

pub parts_to : {n m : ℕ} {f : Bytes} {ticks : List ℤ} {weights variances : List ℕ} → n ≡ m
    → PartsTo n f ticks weights variances → PartsTo m f ticks weights variances
parts_to {f = f} {ticks} {weights} {variances} e h = subst (λ n. PartsTo n f ticks weights variances) e h

module _ {k : ℕ} {f : Bytes} {ticks : List ℤ} {weights variances : List ℕ} (h : OfPart k f ticks weights variances) where
  room : k < 31
  room = omega (arith, h.below, h.whole.high)

  -- the cells stand before the prior means
  logarithms_kept : (z : ℤ) → Logarithms f (set ticks (272 + k) z)
  logarithms_kept z = let cells = h.so_far.logarithms.all in record {
    all = record {
      long = length-set ticks (272 + k) z ∙ cells.long;
      there = run_beside (pos 0) (λ c. c) ticks cells.there (272 + k) z
          (λ c below same. omega (arith, below, cells_few (last_year f) h.whole.high));
    };
  }

  pub parts_next : {variance w prior : ℕ} {z : ℤ} → variance ≡ variance_of f k → w ≡ weight (variance_of f k)
      → prior ≡ weight (prior_variance f k) → z ≡ prior_mean f k
      → PartsTo (k + 1) f (set ticks (272 + k) z) (set (set weights k w) (31 + k) prior) (set variances k variance)
  parts_next {variance} {w} {prior} {z} v-is w-is prior-is mean_is =
      let p = h.so_far in
      let first : length (set weights k w) ≡ 77 = length-set weights k w ∙ p.weights_long in record {
        logarithms = logarithms_kept z;
        weights_long = length-set (set weights k w) (31 + k) prior ∙ first;
        variances_long = length-set variances k variance ∙ p.variances_long;
        variances_are = run_next 0 (λ i. i) variances p.variances_are
            (omega (arith, room, p.variances_long)) (λ i before same. omega arith) v-is;
        weights_are = run_beside 0 (λ i. i) (set weights k w)
            (run_next 0 (λ i. i) weights p.weights_are (omega (arith, room, p.weights_long)) (λ i before same. omega arith) w-is)
            (31 + k) prior (λ i before same. omega (arith, room));
        priors_are = run_next 0 (λ i. 31 + i) (set weights k w)
            (run_beside 0 (λ i. 31 + i) weights p.priors_are k w (λ i before same. omega (arith, room)))
            (omega (arith, room, first)) (λ i before same. omega arith) prior-is;
        means_are = run_next (pos 0) (λ i. 272 + i) ticks p.means_are
            (omega (arith, room, p.logarithms.all.long)) (λ i before same. omega arith) mean_is;
      }
