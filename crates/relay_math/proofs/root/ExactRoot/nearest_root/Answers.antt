-- `nearest_root`: half a unit beyond the digits kept, squared, fits, and the tests are `compare`.
use Prim.Native.Nat.{Ordering}
use Prim.Native.Nat.{ℕ, ◌+◌, ◌*◌, ◌/◌, ◌%◌, ◌^◌, ◌≤◌, ◌<◌}
use mathlib.Core.Path.{◌≡◌, sym, ◌∙◌}
use native.Mathlib.Nat.{le_of_lt, lt_of_lt_of_le, add-mul, mul_assoc, mul-le-mul, mod-eq_of_lt, div-mul-le_self}
use native.Mathlib.Numerals.{add-one}
use native.Mathlib.Omega.{arith}
use lib.Dec.{lit≤}
use lib.Pow.{pow_mono}
use Rattle.relay_math.proofs.Rounding.{root_24, nearest_by}
use Rattle.relay_math.specs.declared.root.ExactRoot.{ExactRoot}
use Rattle.relay_math.proofs.root.ExactRoot.nearest_root.Goals as goal

-- twice the point midway between q without its last k digits and the next multiple of 2 ^ k
abbrev half : ℕ → ℕ → ℕ
half q k = (2 * (q / 2 ^ k) + 1) * 2 ^ k

-- of the whole root of n
module _ (x : ExactRoot) (k : ℕ) (few : k ≤ 24) where
  short : x.q < 2 ^ 24
  short = (root_24 x.n x.q x.least x.most (x.below, x.above)).1

  half_under : half x.q k < 2 ^ 26
  half_under =
      let p = 2 ^ k in
      let l : x.q / p * p ≤ x.q = div-mul-le_self x.q p in
      let t : p ≤ 2 ^ 24 = pow_mono few in
      omega (arith, add-mul (2 * (x.q / p)) 1 p, mul_assoc 2 (x.q / p) p, short)

  shifted : half x.q k % 2 ^ 64 ≡ half x.q k
  shifted = mod-eq_of_lt (lt_of_lt_of_le half_under (lit≤ tt))

  square_under : half x.q k * half x.q k ≤ 2 ^ 26 * 2 ^ 26
  square_under = mul-le-mul (le_of_lt half_under) (le_of_lt half_under)

pub overflow_mul-h-2 : goal.overflow_mul-h-2
overflow_mul-h-2 c = let x = c.args.self in
    let k = c.args.k in
    rw (shifted x k c.requires) (omega (arith, square_under x k c.requires))

pub returns-then-self-h : goal.returns-then-self-h
returns-then-self-h c = let x = c.args.self in
    let k = c.args.k in
    sym (nearest_by x.n x.q k Ordering.lt (x.below, x.above) (rw (shifted x k c.requires) at c.if-self-h.true))

pub returns-then-self-h-2 : goal.returns-then-self-h-2
returns-then-self-h-2 c = let x = c.args.self in
    let k = c.args.k in
    add-one (x.q / 2 ^ k) ∙ sym (nearest_by x.n x.q k Ordering.gt (x.below, x.above) (rw (shifted x k c.requires) at c.if-self-h-2.true))

pub returns : goal.returns
returns c = let x = c.args.self in
    let k = c.args.k in
    let l = rw (shifted x k c.requires) at c.if-self-h-2.false in
    let g = rw (shifted x k c.requires) at c.if-self-h.false in
    sym (nearest_by x.n x.q k Ordering.eq (x.below, x.above) (omega arith))
