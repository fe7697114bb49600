-- What a page holds once a text is put on it, and one text behind another.
use Rattle.std.specs.Prelude.{ℕ, zero, suc, ◌+◌, ◌-◌, ◌≤◌, ◌≡◌, refl, List, [], ◌∷◌, ◌++◌, length, take, drop}
use Rattle.std.proofs.Common.{sym, ap, ap₂, subst, ◌∙◌, append_assoc, append-nil, take-append-drop, arith, take_all, length-take-le, drop-drop}

-- so many bytes stand at the front of a page (the second part follows from the first: both are what `&page[..n]` is asked for)
abbrev pub OnPage : ℕ → List ℕ → Type 0
OnPage n page = (n ≤ length page) × (n ≡ length (take n page))

pub on_page : (n : ℕ) (page : List ℕ) → n ≤ length page → OnPage n page
on_page n page h = (h, sym (length-take-le n page h))

-- Up to `end` the page now has what was there up to `at`, and the text: as much of it as there is room for. Behind it nothing moved.
pub record Added (page : List ℕ) (at : ℕ) (text now : List ℕ) (end : ℕ) : Type 0 where
  pub counted : OnPage end now
  pub from : at ≤ end
  pub front : take end now ≡ take (length page) (take at page ++ text)
  pub behind : drop end now ≡ drop end page

-- what a text in so many columns is asked for
pub record OfColumns (page : List ℕ) (at columns : ℕ) (text : List ℕ) : Type 0 where
  pub on : at ≤ length page
  pub fits : length text ≤ columns
  pub few : columns ≤ 20

cut : (n : ℕ) (xs ys : List ℕ) → take n (take n xs ++ ys) ≡ take n (xs ++ ys)
cut zero xs ys = refl
cut (suc n) [] ys = refl
cut (suc n) (x ∷ xs) ys = ap (λ rest. x ∷ rest) (cut n xs ys)

-- what is the same from a place on is the same further on
pub further : (middle end : ℕ) (xs ys : List ℕ) → middle ≤ end → drop middle xs ≡ drop middle ys → drop end xs ≡ drop end ys
further middle end xs ys later same =
    let sum : middle + (end - middle) ≡ end = omega arith in
    let split : (l : List ℕ) → drop end l ≡ drop (end - middle) (drop middle l)
    = λ l. sym (drop-drop (end - middle) middle l ∙ ap (λ n. drop n l) sum) in
    split xs ∙ ap (drop (end - middle)) same ∙ sym (split ys)

-- one text, then another behind it
pub both : {page between now text more : List ℕ} {at middle end : ℕ}
    → Added page at text between middle → length between ≡ length page → Added between middle more now end
    → Added page at (text ++ more) now end
both {page} {between} {now} {text} {more} {at} {middle} {end} a same b = record {
  counted = b.counted;
  from = omega (arith, a.from, b.from);
  front =
      b.front
      ∙ ap (λ n. take n (take middle between ++ more)) same
      ∙ ap (λ l. take (length page) (l ++ more)) a.front
      ∙ cut (length page) (take at page ++ text) more
      ∙ ap (take (length page)) (append_assoc (take at page) text more);
  behind = b.behind ∙ further middle end between page b.from a.behind;
}

-- the same text in other words
pub in_words : {page now text other : List ℕ} {at end : ℕ} → text ≡ other → Added page at text now end → Added page at other now end
in_words {page} {now} {at = at} {end} same a = subst (λ t. Added page at t now end) same a

-- nothing
pub nothing : (page : List ℕ) (at : ℕ) → at ≤ length page → Added page at [] page at
nothing page at on = record {
  counted = on_page at page on;
  from = omega arith;
  front =
      sym (ap (take (length page)) (append-nil (take at page))
      ∙ take_all (length page) (take at page) (omega (arith, length-take-le at page on)));
  behind = refl;
}

-- a text for which there is room stands there whole, and what stood behind it still does
pub record Whole (page text now : List ℕ) (end : ℕ) : Type 0 where
  pub ends : end ≡ length text
  pub is : now ≡ text ++ drop (length text) page

pub whole : {page text now : List ℕ} {end : ℕ} → Added page 0 text now end → length text ≤ length page → Whole page text now end
whole {page} {text} {now} {end} a room =
    let front : take end now ≡ text = a.front ∙ take_all (length page) text room in
    let ends : end ≡ length text = a.counted.1 ∙ ap length front in
    record {
      ends = ends;
      is = sym (take-append-drop end now) ∙ ap₂ ◌++◌ front (a.behind ∙ ap (λ n. drop n page) ends);
    }
