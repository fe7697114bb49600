-- A part of a block is a part of the file, and a row of either block is the definition's.
use mathlib.Core.Path.{◌≡◌, sym, ap, ap₂, ◌∙◌}
use mathlib.Core.Bool.{Bool, true, false, cond}
use mathlib.Core.List.{[], ◌∷◌}
use Prim.Native.Nat.{ℕ, zero, suc, ◌+◌, ◌*◌, ◌-◌, ◌≤◌}
use native.Mathlib.Nat.{sub-zero, zero-sub}
use native.Mathlib.Omega.{arith}
use borrow.Author.Tests.{eqb-true, eqb-false}
use lib.ListN.{take, drop}
use lib.Seq.{take-nil, take-take, drop-drop}
use lib.Dec.{eqb}
use Rattle.definitions.specs.Layout.{Bytes, last_year, cells, row_start, amount_at, row_bytes}
use Rattle.layout.specs.CheckLaws.{Shown}

drop_take : (a m : ℕ) (l : Bytes) → drop a (take m l) ≡ take (m - a) (drop a l)
drop_take zero m l = ap (λ n. take n l) (sym (sub-zero m))
drop_take (suc a) zero l = rw (zero-sub (suc a))
drop_take (suc a) (suc m) [] = sym (take-nil (suc m - suc a))
drop_take (suc a) (suc m) (x ∷ l) = let e : suc m - suc a ≡ m - a = omega arith in drop_take a m l ∙ ap (λ n. take n (drop a l)) (sym e)

pub part_of : (n a m b : ℕ) (l : Bytes) → a + n ≤ m → take n (drop a (take m (drop b l))) ≡ take n (drop (b + a) l)
part_of n a m b l h =
    let fits : n ≤ m - a = omega arith in
    ap (take n) (drop_take a m (drop b l)) ∙ take-take n (m - a) (drop a (drop b l)) fits ∙ ap (take n) (drop-drop a b l)

-- a block at `at`, m bytes long, and in it the row from `first` to `end`
module _ (s : Bytes) (channel year : ℕ) (shown : Shown s channel year) where
  abbrev J : ℕ
  J = last_year s

  in_block : (first end at m : ℕ) → first ≡ 8 * row_start J year → end ≡ first + 8 * (J + 1 - year) → end ≤ m → at ≡ amount_at J (channel * cells J)
      → take (end - first) (drop first (take m (drop at s))) ≡ row_bytes s channel year
  in_block first end at m e f h g =
      let width : end - first ≡ 8 * (J + 1 - year) = omega arith in
      let place : at + first ≡ amount_at J (channel * cells J + row_start J year) = omega arith in
      part_of (end - first) first m at s (omega arith) ∙ ap₂ (λ n a. take n (drop a s)) width place

  pub row_bytes_lem : (first end start middle m n : ℕ) → first ≡ 8 * row_start J year → end ≡ first + 8 * (J + 1 - year) → end ≤ m → end ≤ n
      → start ≡ amount_at J 0 → middle ≡ amount_at J (cells J)
      → (b : Bool) → eqb channel 0 ≡ b
      → take (end - first) (drop first (cond b (take m (drop start s)) (take n (drop middle s)))) ≡ row_bytes s channel year
  row_bytes_lem first end start middle m n e f h k g i true t =
      let paid : channel * cells J ≡ 0 = ap (λ c. c * cells J) (eqb-true channel 0 t) ∙ omega arith in
      in_block first end start m e f h (g ∙ ap (amount_at J) (sym paid))
  row_bytes_lem first end start middle m n e f h k g i false t =
      let one : channel ≡ 1 = omega (arith, shown.channel, eqb-false channel 0 t) in
      let incurred : channel * cells J ≡ cells J = ap (λ c. c * cells J) one ∙ omega arith in
      in_block first end middle n e f k (i ∙ ap (amount_at J) (sym incurred))
