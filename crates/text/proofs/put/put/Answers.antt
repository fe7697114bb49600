-- What `put` leaves at the page's front is what was there and the text, as far as the page goes.
use Rattle.std.proofs.Common.{ℕ, ◌+◌, ◌-◌, ◌≤◌, ◌≡◌, List, ◌++◌, length, take, min, sym, ap, ◌∙◌, arith, length-append, length-take-le}
use Rattle.std.proofs.Math.Seq.{take-append-add}
use Rattle.std.proofs.lemmas.List.{length-take, take_min}
use Rattle.std.proofs.lemmas.Slice.{take-put_mid, drop-put_mid}
use borrow.Rule.Slice.PartMut.{put_mid}
use Rattle.text.specs.Added.{Added}
use Rattle.text.proofs.put.put.Goals as goal

-- as many bytes of the text as there is room for, at their place
module _ (page text bytes : List ℕ) (at count k : ℕ) (on : at ≤ length page) (many : count ≡ min (length page - at) (length text))
    (same : k ≡ count) (are : bytes ≡ take count text) where
  abbrev now : List ℕ
  now = put_mid at k page bytes

  long : length bytes ≡ count
  long = ap length are ∙ length-take-le count text (omega (arith, many))

  front : take (at + count) now ≡ take at page ++ bytes
  front = take-put_mid at k page bytes (at + count) (omega (arith, long)) on

  before : length (take at page) ≡ at
  before = length-take-le at page on

  reached : length (take (at + count) now) ≡ at + count
  reached = ap length front ∙ omega (arith, length-append (take at page) bytes, before, long)

  placed : Added page at text now (at + count)
  placed = record {
    counted = (omega (arith, reached, length-take (at + count) now), sym reached);
    from = omega arith;
    front =
        front
        ∙ ap (λ l. take at page ++ l) (are ∙ ap (λ n. take n text) many ∙ take_min (length page - at) text)
        ∙ sym (take-append-add (take at page) text (length page - at))
        ∙ ap (λ n. take n (take at page ++ text)) (omega (arith, before, on));
    behind = drop-put_mid at k page bytes (at + count) (omega (arith, same)) on (omega (arith, long, same));
  }

-- the bytes that are copied, and where they end
pub returns : goal.returns
returns c =
    placed c.args.page.now c.args.text.now _ c.args.at _ _ c.requires c.min-count.ensures (omega arith) c.copy_from_slice.ensures.after
