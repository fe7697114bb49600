-- The library's bytes of a number are the definition's.
use Rattle.std.proofs.Common.{◌≡◌, ℕ, ◌%◌, ◌/◌, ◌^◌, refl, arith}
use Rattle.std.specs.Int.{to_be_bytes, w32, w64}
use Rattle.definitions.specs.Layout.{bytes_of}

pub four_bytes : (v : ℕ) → to_be_bytes w32 (v % 2 ^ 32) ≡ bytes_of 4 v
unfolding bytes_of
four_bytes v =
    let a : v % 2 ^ 32 / 16777216 % 256 ≡ v / 256 / 256 / 256 % 256 = omega arith in
    let b : v % 2 ^ 32 / 65536 % 256 ≡ v / 256 / 256 % 256 = omega arith in
    let d : v % 2 ^ 32 / 256 % 256 ≡ v / 256 % 256 = omega arith in
    let e : v % 2 ^ 32 % 256 ≡ v % 256 = omega arith in
    rw (a, b, d, e) refl

pub eight_bytes : (v : ℕ) → to_be_bytes w64 v ≡ bytes_of 8 v
unfolding bytes_of
eight_bytes v =
    let a : v / 256 / 256 ≡ v / 65536 = omega arith in
    let b : v / 65536 / 256 ≡ v / 16777216 = omega arith in
    let d : v / 16777216 / 256 ≡ v / 4294967296 = omega arith in
    let e : v / 4294967296 / 256 ≡ v / 1099511627776 = omega arith in
    let f : v / 1099511627776 / 256 ≡ v / 281474976710656 = omega arith in
    let g : v / 281474976710656 / 256 ≡ v / 72057594037927936 = omega arith in
    rw (a, b, d, e, f, g) refl
