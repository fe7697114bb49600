-- A text that is gathered whole.
use Rattle.std.specs.Prelude.{ℕ, ◌≤◌, ◌≡◌, List, ◌++◌, length, take}
use Rattle.std.proofs.Common.{sym, ap, ◌∙◌, arith, length-append, take_all, take_at}
use Rattle.text.specs.Added.{OnPage, on_page, Added}
use Rattle.settling.specs.declared.gathered.Printed.{Printed}

-- the text, and nothing else, is printed
pub record Prints (text : List ℕ) (r : Printed) : Type 0 where
  pub counted : OnPage r.end r.bytes
  pub is : take r.end r.bytes ≡ text

-- a text for which there is room
pub prints : {page text now : List ℕ} {end : ℕ} {inside : OnPage end now} → Added page 0 text now end → length text ≤ length page
    → Prints text (record { bytes = now; end = end; inside = inside })
prints {page} {text} a room = record { counted = a.counted; is = a.front ∙ take_all (length page) text room }

-- a text at the front of the bytes
pub prints_front : (text rest : List ℕ) {bytes : List ℕ} {end : ℕ} {inside : OnPage end bytes} → bytes ≡ text ++ rest → end ≡ length text
    → Prints text (record { bytes = bytes; end = end; inside = inside })
prints_front text rest {bytes} {end} is ends = record {
  counted = on_page end bytes (omega (arith, ap length is, length-append text rest, ends));
  is = ap (take end) is ∙ take_at text rest end (sym ends);
}

-- the same text in other words
pub prints_as : {text other : List ℕ} {r : Printed} → Prints text r → other ≡ text → Prints other r
prints_as p same = record { counted = p.counted; is = p.is ∙ sym same }
