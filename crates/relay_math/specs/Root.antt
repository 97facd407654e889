-- The square root of IEEE 754-2019 (5.4.1), rounded to nearest even, over whole numbers and in the standard's order: the special operands, the result as if to unlimited precision, the rounding, the exponent's range.
use Prim.Native.Nat.{ℕ, zero, suc, ◌+◌, ◌-◌, ◌*◌, ◌/◌, ◌^◌, compare}
use Rattle.std.specs.Prelude.{true, false, cond, ℤ, pos, negsuc, leb, ltb, Option, Some, None, unwrap_or, Float}
use Rattle.std.specs.Float.{nan, inf, fin, Format, binary32}
use Rattle.std.specs.Float.Ieee.{prec, emax, low, up, down, size, nearest, odd, lt}

-- ---- the exact root and the whole number nearest to it
-- the whole root of an n of at most d pairs of binary digits, from the pairs before the last
unfoldable pub root_by : ℕ → ℕ → ℕ
root_by zero n = 0
root_by (suc d) n = let r = root_by d (n / 4) in cond (leb ((2 * r + 1) * (2 * r + 1)) n) (2 * r + 1) (2 * r)

-- the largest number whose square is at most n
unfoldable pub whole_root_of : ℕ → ℕ
whole_root_of n = root_by (size n) n

-- The whole number nearest to √n / 2 ^ k, at a tie the even one. √n / 2 ^ k is below q + 1 / 2 where 4 * n is below the square of (2 * q + 1) * 2 ^ k.
unfoldable pub nearest_root_of : ℕ → ℕ → ℕ
nearest_root_of n k =
    let q = whole_root_of n / 2 ^ k in
    let h = (2 * q + 1) * 2 ^ k in
    nearest q (compare (4 * n) (h * h))

-- a number of zero or above, to unlimited precision: √radicand / 2 ^ places
pub record Exact : Type 0 where
  pub radicand : ℕ
  pub places : ℕ

-- ---- the four steps, with the standard's clauses
-- 1. The special operands (6.1, 6.2, 6.3, 7.2): plus infinity, NaN and a zero are their own root, and what is below zero has none: NaN. A finite number above zero is no special operand.
unfoldable pub special_operands_of : Float → Option Float
special_operands_of nan = Some nan
special_operands_of (inf false) = Some (inf false)
special_operands_of (inf true) = Some nan
special_operands_of (fin s zero e) = Some (fin s zero e)
special_operands_of (fin true (suc m) e) = Some nan
special_operands_of (fin false (suc m) e) = None

-- how many binary places 2 ^ e has behind the point: down e is 2 ^ behind e
abbrev pub behind : ℤ → ℕ
behind (pos k) = 0
behind (negsuc k) = suc k

-- 2. The result as if to unlimited precision (5.1): √(a / c) is √(a * c) / c. It knows no format. Special operands do not come here.
unfoldable pub unlimited_precision_of : Float → Exact
unlimited_precision_of nan = record { radicand = 0; places = 0 }
unlimited_precision_of (inf s) = record { radicand = 0; places = 0 }
unlimited_precision_of (fin s m e) = record { radicand = m * up e * down e; places = behind e }

-- The nearest number of d digits, at a tie the even one, whatever its exponent. With d places more √n has over d digits before the point, and k of them are dropped.
unfoldable pub to_digits : ℕ → Exact → Float
to_digits d x =
    let n = x.radicand * 4 ^ d in
    let k = size (whole_root_of n) - d in
    odd (suc d) false (nearest_root_of n k) k (x.places + d)

-- 3. The rounding (4.3.1, roundTiesToEven): to the format's digits.
unfoldable pub rounding : Format → Exact → Float
rounding f x = to_digits (prec f) x

-- the exponent of the power of two from which on a number overflows
abbrev pub overflow_exponent : Format → ℕ
overflow_exponent f = suc (emax f)

-- 4. The exponent's range (3.3, 7.4, 7.5) of x, of which y is the rounding. From 2 ^ (emax + 1) on y overflows to infinity. Where x is below the least normal number, 2 ^ (1 - emax), the result is the whole number of smallest values nearest to x itself; the one nearest to y would be rounded twice.
unfoldable pub exponent_range_of : Format → Exact → Float → Float
exponent_range_of f x y =
    let tiny = ltb (x.radicand * 4 ^ (emax f - 1)) (4 ^ x.places) in
    let smallest = nearest_root_of (x.radicand * 4 ^ low f) x.places in
    cond tiny (odd (suc (prec f)) false smallest 0 (low f)) (cond (lt y (fin false 1 (pos (overflow_exponent f)))) y (inf false))

-- squareRoot (5.4.1): the four steps in their order; a special operand's result is its own
unfoldable pub root_of : Format → Float → Float
root_of f x = let exact = unlimited_precision_of x in unwrap_or (special_operands_of x) (exponent_range_of f exact (rounding f exact))

-- `relay_math::sqrtf`
abbrev pub root : Float → Float
root x = root_of binary32 x
