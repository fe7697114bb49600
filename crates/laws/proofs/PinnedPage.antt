-- What is shown of the page, once more in plain numbers and byte by byte, so that no statement of it can be weakened unseen.
use Rattle.std.specs.Prelude.{ℕ, zero, suc, ◌+◌, ◌*◌, ◌-◌, ◌≤◌, ◌<◌, ◌≡◌, Bool, List, [], ◌∷◌, leb, ℤ, pos, nat_abs, length, take, drop, get_or}
use Rattle.std.proofs.Math.Path.{refl, ap}
use Rattle.std.proofs.Common.{sym, ◌∙◌, arith, drop-drop, take-take}
use Rattle.std.proofs.Math.Bool.{true, false, cond}
use Rattle.std.proofs.Math.Option.{some}
use Rattle.definitions.specs.Words.{part}
use Rattle.definitions.specs.Layout.{Bytes, last_year}
use Rattle.definitions.specs.Matrix.{Φ, Ψ, part_by_index, own, figures_from}
use Rattle.definitions.specs.Text.{ascii, read_number, name_of, index_of}
use Rattle.definitions.specs.Page.{page_line, page_of, PageFits}
use Rattle.definitions.specs.Strikes.{StruckFile, Admitted, chain_left, figures_left}
use Rattle.laws.proofs.Tables.{tab_at}
use Rattle.laws.proofs.Pages.{file_page_fits, page_injective}

-- some bytes of a line that ends behind them
inside_line : (at n width : ℕ) (l : Bytes) → at + n ≤ width → take n (drop at (take width l)) ≡ take n (drop at l)
inside_line zero n width l fits = take-take n width l (omega arith)
inside_line (suc at) n zero l fits = absurd (omega arith)
inside_line (suc at) n (suc width) [] fits = refl
inside_line (suc at) n (suc width) (x ∷ l) fits = inside_line at n width l (omega arith)

module _ (f : StruckFile) (admitted : Admitted f) (μ : List ℤ)
    (limits : (k : ℕ) → k < 2 * last_year f.file + 1 → nat_abs (part μ k) ≤ 67108864) where
  abbrev J : ℕ
  J = last_year f.file

  abbrev page : Bytes
  page = page_of J μ (figures_left f).own

  fits : PageFits J μ (figures_left f).own
  fits = file_page_fits f admitted μ limits

  pub page_bytes : length page ≡ 28 * (2 * J + 1)
  page_bytes = fits.bytes

  module _ (k : ℕ) (below : k < 2 * J + 1) where
    -- so many bytes of line k, from one of them on
    piece : (at n : ℕ) → at + n ≤ 28
        → take n (drop (28 * k + at) page) ≡ take n (drop at (page_line (part_by_index J k) (part μ k) (get_or (figures_left f).own k 0)))
    piece at n inside =
        ap (take n) (sym (drop-drop at (28 * k) page))
        ∙ sym (inside_line at n 28 (drop (28 * k) page) inside)
        ∙ ap (λ l. take n (drop at l)) (fits.line k below)

    -- columns 1 to 3, 5 to 6, 8 to 16 and 18 to 27
    pub name_on_page : take 3 (drop (28 * k + 0) page) ≡ cond (leb k J) (ascii "phi") (ascii "psi")
    unfolding part_by_index name_of
    name_on_page = piece 0 3 (omega arith) ∙ (fits.fits k below).name ∙ by_kind (leb k J)
      where
        by_kind : (b : Bool) → name_of (cond b (Φ k) (Ψ (k - (J + 1)))) ≡ cond b (ascii "phi") (ascii "psi")
        by_kind true = refl
        by_kind false = refl

    pub index_on_page : read_number (take 2 (drop (28 * k + 4) page)) ≡ some (pos (cond (leb k J) k (k - (J + 1))))
    unfolding part_by_index index_of
    index_on_page =
        ap read_number (piece 4 2 (omega arith)) ∙ (fits.fits k below).index_read
        ∙ ap (λ i. some (pos i)) (by_kind (leb k J))
      where
        by_kind : (b : Bool) → index_of (cond b (Φ k) (Ψ (k - (J + 1)))) ≡ cond b k (k - (J + 1))
        by_kind true = refl
        by_kind false = refl

    pub ticks_on_page : read_number (take 9 (drop (28 * k + 7) page)) ≡ some (part μ k)
    ticks_on_page = ap read_number (piece 7 9 (omega arith)) ∙ (fits.fits k below).ticks_read

    pub weight_on_page : read_number (take 10 (drop (28 * k + 17) page)) ≡ some (pos (own (chain_left f) k))
    unfolding figures_from
    weight_on_page =
        ap read_number (piece 17 10 (omega arith))
        ∙ (fits.fits k below).weight_read
        ∙ ap (λ weight. some (pos weight)) (tab_at (2 * J + 1) (own (chain_left f)) k 0 below)

    pub spaces_on_page : (take 1 (drop (28 * k + 3) page) ≡ 32 ∷ []) × (take 1 (drop (28 * k + 6) page) ≡ 32 ∷ [])
        × (take 1 (drop (28 * k + 16) page) ≡ 32 ∷ []) × (take 1 (drop (28 * k + 27) page) ≡ 10 ∷ [])
    spaces_on_page =
        let spaces = (fits.fits k below).spaces in (
          piece 3 1 (omega arith) ∙ spaces.0,
          piece 6 1 (omega arith) ∙ spaces.1,
          piece 16 1 (omega arith) ∙ spaces.2,
          piece 27 1 (omega arith) ∙ (fits.fits k below).end,
        )

-- two different means never share a page, whatever the own weights are
pub never_shared : (J K : ℕ) → J ≤ 15 → K ≤ 15 → (μ ν : List ℤ) → length μ ≡ 2 * J + 1 → length ν ≡ 2 * K + 1
    → ((k : ℕ) → k < 2 * J + 1 → nat_abs (part μ k) ≤ 67108864) → ((k : ℕ) → k < 2 * K + 1 → nat_abs (part ν k) ≤ 67108864)
    → (D E : List ℕ) → page_of J μ D ≡ page_of K ν E → (J ≡ K) × (μ ≡ ν)
never_shared J K J-to K-to μ ν μ-long ν-long μ-to ν-to D E same = page_injective J K μ ν D E J-to K-to μ-to ν-to μ-long ν-long same
