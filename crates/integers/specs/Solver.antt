-- A solver for equations of the commutative ring ℤ. A call lists the unknowns, and then states the equation over names for them:
--
--     ring (a ∷ b ∷ []) (λ x y. (x ⊞ y) ⊠ (x ⊟ y) ≐ x ⊠ x ⊟ y ⊠ y) tt : (a +ℤ b) *ℤ (a -ℤ b) ≡ a *ℤ a -ℤ b *ℤ b
--
-- An expression is made of the unknowns by ⊞ (sum), ⊟ (difference), ⊠ (product), ⊖ (negation) and `num k` (the whole number `pos k`).
-- The unknowns are any terms; a compound one stands in parentheses, since `∷` binds tightly. `tt` is refused where the two sides differ
-- as polynomials. A side becomes a polynomial in Horner's form, one unknown inside another; what is compared with 0 is their difference,
-- so that no order of monomials is needed.
use Rattle.std.specs.Prelude.{◌≡◌, refl, Bool, ◌&&◌, List, [], ◌∷◌, ℕ, zero, suc, T, eqb, ℤ, pos, negsuc, neg_ℤ, nat_abs, ◌+ℤ◌, ◌-ℤ◌, ◌*ℤ◌}
use Rattle.std.proofs.Common.{sym, ◌∙◌, ap, ap₂, arith, eqb→eq}
use Rattle.std.proofs.Math.Facts.{and_yes}
use Rattle.std.proofs.Math.IntN.{+ℤ_idl, +ℤ_idr, +ℤ_assoc, +ℤ_comm, *ℤ-zero}
use Rattle.integers.specs.Ring.{is, is_add, is_mul, is_unique, *ℤ-+ℤ, neg_ℤ-*ℤ, *ℤ_idr, *ℤ_idl, +ℤ_exchange, ≡ℤ_is_zero}

-- ---- expressions

pub data Expression : Type 0 where
  var : ℕ → Expression
  num : ℕ → Expression
  ◌⊞◌ : Expression → Expression → Expression
  ◌⊟◌ : Expression → Expression → Expression
  ◌⊠◌ : Expression → Expression → Expression
  ⊖◌ : Expression → Expression

pub data Equation : Type 0 where
  ◌≐◌ : Expression → Expression → Equation

infix 4 ◌≐◌
infixl 6 ◌⊞◌ ◌⊟◌
infixl 7 ◌⊠◌
infix 8 ⊖◌
abbrev pub unknown : ℕ → List ℤ → ℤ
unknown i [] = pos 0
unknown zero (x ∷ ρ) = x
unknown (suc i) (x ∷ ρ) = unknown i ρ

abbrev pub eval : Expression → List ℤ → ℤ
eval (var i) ρ = unknown i ρ
eval (num k) ρ = pos k
eval (a ⊞ b) ρ = eval a ρ +ℤ eval b ρ
eval (a ⊟ b) ρ = eval a ρ -ℤ eval b ρ
eval (a ⊠ b) ρ = eval a ρ *ℤ eval b ρ
eval (⊖ a) ρ = neg_ℤ (eval a ρ)

-- ---- polynomials: a number, or c + x · p with x the first unknown, c over the others and p over all

pub data Polynomial : Type 0 where
  con : ℤ → Polynomial
  hor : Polynomial → Polynomial → Polynomial

abbrev pub value : Polynomial → List ℤ → ℤ
value (con k) ρ = k
value (hor c p) [] = value c []
value (hor c p) (x ∷ ρ) = value c ρ +ℤ x *ℤ value p (x ∷ ρ)

abbrev pub plus_con : ℤ → Polynomial → Polynomial
plus_con k (con j) = con (k +ℤ j)
plus_con k (hor c p) = hor (plus_con k c) p

abbrev pub plus : Polynomial → Polynomial → Polynomial
plus (con k) q = plus_con k q
plus (hor c p) (con k) = plus_con k (hor c p)
plus (hor c p) (hor d q) = hor (plus c d) (plus p q)

abbrev pub scale : ℤ → Polynomial → Polynomial
scale k (con j) = con (k *ℤ j)
scale k (hor c p) = hor (scale k c) (scale k p)

-- f, which multiplies by a polynomial over the other unknowns, at each coefficient
abbrev pub spread : (Polynomial → Polynomial) → Polynomial → Polynomial
spread f (con k) = hor (f (con k)) (con (pos 0))
spread f (hor c p) = hor (f c) (spread f p)

abbrev pub times : Polynomial → Polynomial → Polynomial
times (con k) q = scale k q
times (hor c p) q = plus (spread (times c) q) (hor (con (pos 0)) (times p q))

abbrev pub unit : ℕ → Polynomial
unit zero = hor (con (pos 0)) (con (pos 1))
unit (suc i) = hor (unit i) (con (pos 0))

abbrev pub flat : Expression → Polynomial
flat (var i) = unit i
flat (num k) = con (pos k)
flat (a ⊞ b) = plus (flat a) (flat b)
flat (a ⊟ b) = plus (flat a) (scale (negsuc 0) (flat b))
flat (a ⊠ b) = times (flat a) (flat b)
flat (⊖ a) = scale (negsuc 0) (flat a)

abbrev pub vanishes : Polynomial → Bool
vanishes (con k) = eqb (nat_abs k) 0
vanishes (hor c p) = vanishes c && vanishes p

-- ---- the polynomial of an expression has its value

value_plus_con : (k : ℤ) (p : Polynomial) (ρ : List ℤ) → value (plus_con k p) ρ ≡ k +ℤ value p ρ
value_plus_con k (con j) ρ = refl
value_plus_con k (hor c p) [] = value_plus_con k c []
value_plus_con k (hor c p) (x ∷ ρ) =
    let rest : ℤ = x *ℤ value p (x ∷ ρ) in
    ap (λ t. t +ℤ rest) (value_plus_con k c ρ) ∙ +ℤ_assoc k (value c ρ) rest

value_plus : (p q : Polynomial) (ρ : List ℤ) → value (plus p q) ρ ≡ value p ρ +ℤ value q ρ
value_plus (con k) q ρ = value_plus_con k q ρ
value_plus (hor c p) (con k) ρ = value_plus_con k (hor c p) ρ ∙ +ℤ_comm k (value (hor c p) ρ)
value_plus (hor c p) (hor d q) [] = value_plus c d []
value_plus (hor c p) (hor d q) (x ∷ ρ) =
    ap₂ (λ s t. s +ℤ x *ℤ t) (value_plus c d ρ) (value_plus p q (x ∷ ρ))
    ∙ ap (λ t. value c ρ +ℤ value d ρ +ℤ t) (*ℤ-+ℤ x (value p (x ∷ ρ)) (value q (x ∷ ρ)))
    ∙ +ℤ_exchange (value c ρ) (value d ρ) (x *ℤ value p (x ∷ ρ)) (x *ℤ value q (x ∷ ρ))

-- k · c + x · (k · p) = k · (c + x · p)
step_scale : (k c x p : ℤ) → k *ℤ c +ℤ x *ℤ (k *ℤ p) ≡ k *ℤ (c +ℤ x *ℤ p)
step_scale k c x p = is_unique
    (is_add (is_mul (is k) (is c)) (is_mul (is x) (is_mul (is k) (is p))))
    (is_mul (is k) (is_add (is c) (is_mul (is x) (is p)))) (omega arith)

value_scale : (k : ℤ) (p : Polynomial) (ρ : List ℤ) → value (scale k p) ρ ≡ k *ℤ value p ρ
value_scale k (con j) ρ = refl
value_scale k (hor c p) [] = value_scale k c []
value_scale k (hor c p) (x ∷ ρ) =
    ap₂ (λ s t. s +ℤ x *ℤ t) (value_scale k c ρ) (value_scale k p (x ∷ ρ))
    ∙ step_scale k (value c ρ) x (value p (x ∷ ρ))

-- what `spread` is of, where f multiplies by c: a product by c, which is over the unknowns after the first
module _ (f : Polynomial → Polynomial) (c : Polynomial) (by : (q : Polynomial) (ρ : List ℤ) → value (f q) ρ ≡ value c ρ *ℤ value q ρ) where
  value_spread_none : (q : Polynomial) → value (spread f q) [] ≡ value c [] *ℤ value q []
  value_spread_none (con k) = by (con k) []
  value_spread_none (hor d r) = by d []

  value_spread : (q : Polynomial) (x : ℤ) (ρ : List ℤ) → value (spread f q) (x ∷ ρ) ≡ value c ρ *ℤ value q (x ∷ ρ)
  value_spread (con k) x ρ = ap₂ ◌+ℤ◌ (by (con k) ρ) (*ℤ-zero x) ∙ +ℤ_idr (value c ρ *ℤ k)
  value_spread (hor d r) x ρ =
      ap₂ (λ s t. s +ℤ x *ℤ t) (by d ρ) (value_spread r x ρ)
      ∙ step_scale (value c ρ) (value d ρ) x (value r (x ∷ ρ))

-- c · q + (0 + x · (p · q)) = (c + x · p) · q
step_times : (c q x p : ℤ) → c *ℤ q +ℤ (pos 0 +ℤ x *ℤ (p *ℤ q)) ≡ (c +ℤ x *ℤ p) *ℤ q
step_times c q x p = is_unique
    (is_add (is_mul (is c) (is q)) (is_add (is (pos 0)) (is_mul (is x) (is_mul (is p) (is q)))))
    (is_mul (is_add (is c) (is_mul (is x) (is p))) (is q)) (omega arith)

value_times : (p q : Polynomial) (ρ : List ℤ) → value (times p q) ρ ≡ value p ρ *ℤ value q ρ
value_times (con k) q ρ = value_scale k q ρ
value_times (hor c p) q [] =
    value_plus (spread (times c) q) (hor (con (pos 0)) (times p q)) []
    ∙ ap (λ t. t +ℤ pos 0) (value_spread_none (times c) c (value_times c) q)
    ∙ +ℤ_idr (value c [] *ℤ value q [])
value_times (hor c p) q (x ∷ ρ) =
    value_plus (spread (times c) q) (hor (con (pos 0)) (times p q)) (x ∷ ρ)
    ∙ ap₂ (λ s t. s +ℤ (pos 0 +ℤ x *ℤ t)) (value_spread (times c) c (value_times c) q x ρ) (value_times p q (x ∷ ρ))
    ∙ step_times (value c ρ) (value q (x ∷ ρ)) x (value p (x ∷ ρ))

value_unit : (i : ℕ) (ρ : List ℤ) → value (unit i) ρ ≡ unknown i ρ
value_unit zero [] = refl
value_unit zero (x ∷ ρ) = +ℤ_idl (x *ℤ pos 1) ∙ *ℤ_idr x
value_unit (suc i) [] = value_unit i []
value_unit (suc i) (x ∷ ρ) = ap₂ ◌+ℤ◌ (value_unit i ρ) (*ℤ-zero x) ∙ +ℤ_idr (unknown i ρ)

value_minus : (p : Polynomial) (ρ : List ℤ) → value (scale (negsuc 0) p) ρ ≡ neg_ℤ (value p ρ)
value_minus p ρ = value_scale (negsuc 0) p ρ ∙ neg_ℤ-*ℤ (pos 1) (value p ρ) ∙ ap neg_ℤ (*ℤ_idl (value p ρ))

value_flat : (e : Expression) (ρ : List ℤ) → value (flat e) ρ ≡ eval e ρ
value_flat (var i) ρ = value_unit i ρ
value_flat (num k) ρ = refl
value_flat (a ⊞ b) ρ = value_plus (flat a) (flat b) ρ ∙ ap₂ ◌+ℤ◌ (value_flat a ρ) (value_flat b ρ)
value_flat (a ⊟ b) ρ =
    value_plus (flat a) (scale (negsuc 0) (flat b)) ρ
    ∙ ap₂ ◌+ℤ◌ (value_flat a ρ) (value_minus (flat b) ρ ∙ ap neg_ℤ (value_flat b ρ))
value_flat (a ⊠ b) ρ = value_times (flat a) (flat b) ρ ∙ ap₂ ◌*ℤ◌ (value_flat a ρ) (value_flat b ρ)
value_flat (⊖ a) ρ = value_minus (flat a) ρ ∙ ap neg_ℤ (value_flat a ρ)

value_vanishes : (p : Polynomial) → T (vanishes p) → (ρ : List ℤ) → value p ρ ≡ pos 0
value_vanishes (con (pos n)) t ρ = ap pos (eqb→eq n 0 t)
value_vanishes (con (negsuc n)) t ρ = absurd (omega (arith, eqb→eq (suc n) 0 t))
value_vanishes (hor c p) t [] = value_vanishes c (and_yes (vanishes c) (vanishes p) t).0 []
value_vanishes (hor c p) t (x ∷ ρ) =
    let both = and_yes (vanishes c) (vanishes p) t in
    ap₂ (λ s u. s +ℤ x *ℤ u) (value_vanishes c both.0 ρ) (value_vanishes p both.1 (x ∷ ρ))
    ∙ +ℤ_idl (x *ℤ pos 0) ∙ *ℤ-zero x

-- ---- the solver

-- an equation over as many names as there are unknowns, and the equation at the unknowns
abbrev pub Over : List ℤ → Type 0
Over [] = Equation
Over (x ∷ ρ) = Expression → Over ρ

abbrev pub named : (ρ : List ℤ) → ℕ → Over ρ → Equation
named [] i e = e
named (x ∷ ρ) i f = named ρ (suc i) (f (var i))

abbrev pub Holds : List ℤ → Equation → Type 0
Holds ρ (a ≐ b) = eval a ρ ≡ eval b ρ

abbrev pub Equal : Equation → Type 0
Equal (a ≐ b) = T (vanishes (flat (a ⊟ b)))

solve : (ρ : List ℤ) (e : Equation) → Equal e → Holds ρ e
solve ρ (a ≐ b) t = ≡ℤ_is_zero.1 (sym (value_flat (a ⊟ b) ρ) ∙ value_vanishes (flat (a ⊟ b)) t ρ)

pub ring : (ρ : List ℤ) (f : Over ρ) → Equal (named ρ 0 f) → Holds ρ (named ρ 0 f)
ring ρ f t = solve ρ (named ρ 0 f) t

-- ---- examples

square_of_sum : (a b : ℤ) → (a +ℤ b) *ℤ (a +ℤ b) ≡ a *ℤ a +ℤ pos 2 *ℤ (a *ℤ b) +ℤ b *ℤ b
square_of_sum a b = ring (a ∷ b ∷ []) (λ a b. (a ⊞ b) ⊠ (a ⊞ b) ≐ a ⊠ a ⊞ num 2 ⊠ (a ⊠ b) ⊞ b ⊠ b) tt

with_naturals : (m : ℕ) (x y : ℤ) → pos m *ℤ (x -ℤ y) +ℤ negsuc 2 *ℤ x ≡ (pos m -ℤ pos 3) *ℤ x -ℤ pos m *ℤ y
with_naturals m x y = ring (pos m ∷ x ∷ y ∷ []) (λ m x y. m ⊠ (x ⊟ y) ⊞ ⊖ num 3 ⊠ x ≐ (m ⊟ num 3) ⊠ x ⊟ m ⊠ y) tt
