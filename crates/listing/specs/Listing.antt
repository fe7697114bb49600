-- The lines of a record's parts.
use Rattle.std.specs.Prelude.{ℕ, ◌+◌, ◌*◌, ◌≤◌, ◌≡◌, refl, List, [], ◌∷◌, ◌++◌, ℤ, length, take, drop}
use Rattle.std.proofs.Common.{sym, ap, ◌∙◌, arith, length-drop}
use Rattle.std.proofs.Math.Seq.{append_snoc}
use Rattle.std.proofs.lemmas.List.{take-append-le, drop-append-le}
use Rattle.definitions.specs.Words.{part}
use Rattle.definitions.specs.Layout.{Bytes, big_endian, unsigned, twos_complement, signed, last_year, parts, part_at, record_of}
use Rattle.definitions.specs.Refusals.{year_limit}
use Rattle.definitions.specs.Matrix.{Part, part_by_index, Figures, figures_from, figures_of}
use Rattle.definitions.specs.Text.{ascii, space, line_feed, decimal, signed_decimal, name_of, index_of, lines}
use Rattle.definitions.specs.Machine.{State, record_in}
use Rattle.definitions.specs.Programs.{count_line, part_line, listed, listing}
use Rattle.laws.proofs.Lines.{lines_same}
use Rattle.laws.specs.Printed.{MeanSettled}
use Rattle.records.specs.Records.{InLimits, record_length_lem, part_read}

-- what the lines of parts are asked for
pub record OfParts (page : List ℕ) (at last : ℕ) : Type 0 where
  pub on : at ≤ length page
  pub years : last ≤ year_limit

abbrev pub record_lines : ℕ → Bytes → Bytes
record_lines last r = lines (λ k. part_line (part_by_index last k) (signed (part_at k) r)) (parts last)

-- a line as it is put, the spaces by themselves
pub part_put : (p : Part) (mean : ℤ)
    → name_of p ++ space ∷ [] ++ decimal (index_of p) ++ space ∷ [] ++ signed_decimal mean ++ line_feed ∷ [] ≡ part_line p mean
unfolding part_line
part_put p mean =
    let indexed = decimal (index_of p) in
    rw (append_snoc (name_of p) space indexed, append_snoc (name_of p ++ space ∷ indexed) space (signed_decimal mean)) refl

-- what is read of a mean's record, with bytes behind it, are its parts
pub record_lines_lem : (J : ℕ) (μ : List ℤ) (rest : Bytes) → InLimits (parts J) μ
    → record_lines J (record_of J μ ++ rest) ≡ lines (λ k. part_line (part_by_index J k) (part μ k)) (parts J)
unfolding unsigned
record_lines_lem J μ rest inside = lines_same _ _ (parts J) (λ k below.
    let long = record_length_lem J μ in
    let at : 5 + 4 * k ≤ length (record_of J μ) = omega (arith, long) in
    let bytes : take 4 (drop (5 + 4 * k) (record_of J μ ++ rest)) ≡ take 4 (drop (5 + 4 * k) (record_of J μ)) =
    ap (take 4) (drop-append-le (5 + 4 * k) (record_of J μ) rest at)
    ∙ take-append-le 4 (drop (5 + 4 * k) (record_of J μ)) rest (omega (arith, length-drop (5 + 4 * k) (record_of J μ), long)) in
    ap (part_line (part_by_index J k)) (ap (λ l. twos_complement (big_endian 0 l)) bytes ∙ part_read J μ inside k below))

-- what is put is the listing
pub listing_put : {given : Bytes} {st : State Figures} {total : ℕ} (m : MeanSettled given st total)
    → {last : ℕ} {r : Bytes} (rest : Bytes) → last ≡ last_year given → r ≡ record_in (figures_of given) m.mean ++ rest
    → (count_line (ascii "J ") last ++ count_line (ascii "sweeps ") total) ++ record_lines last r ≡ listing given
unfolding listed figures_from
listing_put {given} m rest years is =
    rw (years, is, record_lines_lem (last_year given) m.mean rest m.inside) refl ∙ sym (m.text listed)
