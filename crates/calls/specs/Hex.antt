-- Bytes as text: two lower-case digits each. What the contract of `hex` cites, and the law that its loop goes by.
use Rattle.std.specs.Prelude.{ℕ, suc, ◌+◌, ◌/◌, ◌%◌, ◌<◌, ◌≡◌, refl, cond, nat_lt, List, [], ◌∷◌, ◌++◌, length, get_or, take, set}
use Rattle.std.proofs.Common.{sym, ap, ap₂, ◌∙◌, append_assoc, add-one, arith, length-set, take-suc, take-suc-set}

-- the ASCII code of a digit below 16: `0` to `9`, then `a` to `f`
abbrev pub hex_digit_ascii : ℕ → ℕ
hex_digit_ascii d = cond (nat_lt d 10) (48 + d) (87 + d)

abbrev pub pair_of : ℕ → List ℕ
pair_of b = hex_digit_ascii (b / 16) ∷ hex_digit_ascii (b % 16) ∷ []

unfoldable pub hex_of : List ℕ → List ℕ
hex_of [] = []
hex_of (b ∷ bs) = hex_digit_ascii (b / 16) ∷ hex_digit_ascii (b % 16) ∷ hex_of bs

hex_last : (bs : List ℕ) (b : ℕ) → hex_of (bs ++ (b ∷ [])) ≡ hex_of bs ++ pair_of b
unfolding hex_of
hex_last [] b = refl
hex_last (x ∷ bs) b = ap (λ rest. hex_digit_ascii (x / 16) ∷ hex_digit_ascii (x % 16) ∷ rest) (hex_last bs b)

-- two digits behind those of the bytes before
pub hex_next : (text bs : List ℕ) (end i a b : ℕ) → end + 1 < length text → i < length bs → take end text ≡ hex_of (take i bs)
    → a ≡ hex_digit_ascii (get_or bs i 0 / 16) → b ≡ hex_digit_ascii (get_or bs i 0 % 16)
    → take (end + 2) (set (set text end a) (end + 1) b) ≡ hex_of (take (i + 1) bs)
hex_next text bs end i a b room below before first second =
    let two : end + 2 ≡ suc (end + 1) = omega arith in
    ap (λ n. take n (set (set text end a) (end + 1) b)) two
    ∙ take-suc-set (set text end a) (end + 1) b (rw length-set room)
    ∙ ap (λ l. l ++ (b ∷ [])) (ap (λ n. take n (set text end a)) (add-one end) ∙ take-suc-set text end a (omega arith))
    ∙ append_assoc (take end text) (a ∷ []) (b ∷ [])
    ∙ ap₂ ◌++◌ before (ap₂ (λ x y. x ∷ y ∷ []) first second)
    ∙ sym (ap (λ n. hex_of (take n bs)) (add-one i) ∙ ap hex_of (take-suc bs i 0 below) ∙ hex_last (take i bs) (get_or bs i 0))
