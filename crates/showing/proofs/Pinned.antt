-- What callers can count on, in plain numbers, each drawn from the contract of figures alone.
use Rattle.std.specs.Prelude.{ℕ, ◌+◌, ◌*◌, ◌<◌, ◌≡◌, refl, List, ℤ, pos, replicate, Result, Ok, Err, IsOkAnd}
use Rattle.std.proofs.Math.Path.{ap}
use Rattle.std.proofs.Common.{◌∙◌}
use Rattle.std.proofs.Math.ListN.{get_or}
use Rattle.definitions.specs.Words.{part}
use Rattle.definitions.specs.Layout.{last_year, closeness}
use Rattle.definitions.specs.Matrix.{Figures, entry, own, matrix, right_hand_side}
use Rattle.definitions.specs.Strikes.{StruckFile, chain_left}
use Rattle.definitions.specs.Machine.{empty, holds}
use Rattle.laws.proofs.Tables.{tab_at}
use Rattle.layout.specs.declared.refusals.Reason.TheVariants.{NothingOpen}
use Rattle.layout.specs.declared.refusals.Refusal.{Refusal}
use Rattle.chain.specs.declared.arrays.Figures as arrays
use Rattle.chain.specs.Arrays.{figures_at}
use Rattle.holding.specs.State.{Held, state_of, HoldsFile}
use Rattle.showing.specs.Shows.{in_arrays, FiguresOf, shows_to, Shows, Puts}
use Rattle.showing.proofs.ShowLaws.{entry_at}

-- what holds of figures holds of those that are shown
shown_so : {P Q : arrays.Figures → Type 0} (r : Result arrays.Figures Refusal) → IsOkAnd r P → ((v : arrays.Figures) → P v → Q v) → IsOkAnd r Q
shown_so (Ok v) h so = so v h
shown_so (Err e) h so = h

module _ (s : Held) (r : Result arrays.Figures Refusal) (call : Shows s r) where
  pub none_shown : state_of s ≡ empty → r ≡ Err (record { reason = NothingOpen; place = 0 })
  unfolding shows_to
  none_shown none = call.shown ∙ ap shows_to none

  module _ (F : Figures) (μ : List ℤ) (count : ℕ) (some : state_of s ≡ holds F μ count) where
    e : r ≡ shows_to (state_of s) → r ≡ Ok (in_arrays F)
    unfolding shows_to
    e told = told ∙ ap shows_to some

    pub shown_numbers : IsOkAnd r (λ v. (v.last ≡ F.last) × (v.closeness ≡ F.closeness))
    shown_numbers = rw (e call.shown) (refl, refl)

    pub shown_own : (k : ℕ) → k < 31 → IsOkAnd r (λ v. get_or v.own k 0 ≡ get_or F.own k 0)
    shown_own k below = rw (e call.shown) (tab_at 31 (λ i. get_or F.own i 0) k 0 below)

    -- in both halves
    pub shown_entry : (k l : ℕ) → k < 31 → l < 31 → IsOkAnd r (λ v. part v.matrix (31 * k + l) ≡ entry F k l)
    shown_entry k l k-below l-below = rw (e call.shown) (entry_at F k l k-below l-below)

    pub shown_right_hand : (k : ℕ) → k < 31 → IsOkAnd r (λ v. part v.right_hand k ≡ part F.right_hand_side k)
    shown_right_hand k below = rw (e call.shown) (tab_at 31 (part F.right_hand_side) k (pos 0) below)

  -- of the file that is open, whatever its J
  module _ (f : StruckFile) (μ : List ℤ) (count : ℕ) (open-file : HoldsFile s f μ count) where
    shown_file : IsOkAnd r (λ v. FiguresOf f v)
    shown_file = call.of_file f μ count open-file

    pub numbers_of_file : IsOkAnd r (λ v. (v.last ≡ last_year f.file) × (v.closeness ≡ closeness f.file))
    numbers_of_file = shown_so r shown_file (λ v h. (h.last, h.close))

    pub own_of_file : (k : ℕ) → k < 2 * last_year f.file + 1 → IsOkAnd r (λ v. get_or v.own k 0 ≡ own (chain_left f) k)
    own_of_file k below = shown_so r shown_file (λ v told. told.own k below)

    pub entry_of_file : (k l : ℕ) → k < 2 * last_year f.file + 1 → l < 2 * last_year f.file + 1
        → IsOkAnd r (λ v. part v.matrix (31 * k + l) ≡ matrix (chain_left f) k l)
    entry_of_file k l k-below l-below = shown_so r shown_file (λ v told. told.matrix k l k-below l-below)

    pub right_hand_of_file : (k : ℕ) → k < 2 * last_year f.file + 1
        → IsOkAnd r (λ v. part v.right_hand k ≡ right_hand_side (chain_left f) k)
    right_hand_of_file k below = shown_so r shown_file (λ v told. told.right_hand k below)

-- ---- in a place that is lent

-- beside a refusal every number is 0
pub none_put : (s : Held) (r : Result Unit Refusal) (v : arrays.Figures) → Puts s r v → state_of s ≡ empty
    → (r ≡ Err (record { reason = NothingOpen; place = 0 }))
    × (v ≡ figures_at 0 0 (replicate 31 0) (replicate 961 (pos 0)) (replicate 31 (pos 0)))
unfolding shows_to
none_put s (Ok done) v call none = let e = call.shown ∙ ap shows_to none in (cc, cc)
none_put s (Err x) v call none = let e = call.0.shown ∙ ap shows_to none in (cc, call.1)

pub open_put : (s : Held) (r : Result Unit Refusal) (v : arrays.Figures) → Puts s r v → (F : Figures) (μ : List ℤ) (count : ℕ)
    → state_of s ≡ holds F μ count → (r ≡ Ok tt) × (v ≡ in_arrays F)
unfolding shows_to
open_put s (Ok tt) v call F μ count some = let e = call.shown ∙ ap shows_to some in (refl, cc)
open_put s (Err x) v call F μ count some = let e = call.0.shown ∙ ap shows_to some in (cc, cc)
