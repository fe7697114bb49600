-- `shown::front` meets its contract: the numbers of the parts in front, the empty one behind.
use Rattle.std.proofs.Common.{ℕ, List, ◌≡◌, ◌∙◌, ◌++◌, ◌<◌, ◌≤◌, ◌+◌, ◌-◌, ap, get_or, drop, length, replicate, arith}
use Rattle.std.proofs.Math.ListN.{get_or-append}
use Rattle.std.proofs.Math.Seq.{get_or-append_right}
use Rattle.std.proofs.lemmas.List.{length-append, length-drop, length-replicate, length-take, get_or-drop, get_or-take}
use Rattle.laws.specs.Filled.{Filled}
use Rattle.laws.proofs.Filled.{empty_at}
use Rattle.showing.specs.Shown.{filled_is}
use Rattle.showing.proofs.shown.front.Goals as goal

-- numbers in front, the empty one behind
copied : {A : Type 0} {f : ℕ → A} (empty : A) (n : ℕ) (numbers : List A) → n ≤ 31 → length numbers ≡ n
    → ((i : ℕ) → i < n → get_or numbers i empty ≡ f i) → Filled 31 n empty f (numbers ++ drop n (replicate 31 empty))
copied empty n numbers few long are = let rest = drop n (replicate 31 empty) in record {
  long = omega (arith, length-append numbers rest, length-drop n (replicate 31 empty), length-replicate 31 empty);
  front = λ i below. get_or-append numbers rest empty i (omega arith) ∙ are i below;
  rest = λ i from. get_or-append_right numbers rest i empty (omega arith)
      ∙ get_or-drop n (replicate 31 empty) (i - length numbers) empty ∙ empty_at 31 (n + (i - length numbers)) empty;
}

pub returns : goal.returns
returns g c =
    let a = c.args in
    let is = c.copy_from_slice.ensures.after in
    filled_is _ _ c.requires.few
    (copied a.empty a.count c.copy_from_slice.new.self c.requires.few
    (omega (arith, ap length is, length-take a.count a.numbers.now, c.told-numbers))
    (λ i below. ap (λ l. get_or l i a.empty) is ∙ get_or-take a.count a.numbers.now i a.empty below))
