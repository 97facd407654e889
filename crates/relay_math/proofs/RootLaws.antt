-- The roots of the special operands, and of a finite f32 above zero that the exponent's range changes nothing and that its root is the f32 nearest to the exact one.
use mathlib.Core.Path.{◌≡◌, refl, sym, ap, ◌∙◌, subst}
use mathlib.Core.Bool.{Bool, true, false, ◌||◌, beq, cond}
use Prim.Native.Nat.{ℕ, zero, suc, ◌+◌, ◌-◌, ◌*◌, ◌/◌, ◌%◌, ◌^◌, ◌≤◌, ◌<◌, zero-le}
use native.Mathlib.Nat.{le_trans, le_of_lt, lt_of_lt_of_le, lt_of_not-le, zero-lt-suc, zero-mul, zero-add, sub-add_cancel, add-sub_cancel_left, mul-pos, mul_assoc, mul-le-mul, mul-le-mul_left, mul-le-mul_right, mul-lt-mul_of_pos_right, eq_of_mul-eq-mul_right}
use native.Mathlib.Decide.{dec_le}
use native.Mathlib.Omega.{arith}
use lib.IntN.{ℤ, pos, negsuc}
use lib.Dec.{T, ltb, eqb, eqb→eq, lt→ltb, lit<, lit≤}
use lib.Pow.{pow-add, pow_pos, pow_mono}
use lib.Count.{count_leading_zeros}
use lib.Ieee.{Float, nan, inf, fin, binary32, up, down, size, odd, units, fits, lt, eq, le, of_bits, to_bits}
use lib.Ieee.Bits.{is_true, of_bits-to_bits}
use lib.Ieee.Exact.{HasValue, odd_sign}
use lib.Ieee.Fits.{and_l, up_pos, down_pos, odd-fits}
use lib.Ieee.Order.{le_of_values}
use lib.Ieee.Positive.{positive}
use lib.Ieee.Scale.{finite}
use Rattle.relay_math.specs.Small.{f32_zero}
use Rattle.relay_math.specs.Root.{Exact, whole_root_of, nearest_root_of, special_operands_of, unlimited_precision_of, rounding, exponent_range_of, root_of, root}
use Rattle.std.proofs.Common.{None}
use Rattle.relay_math.proofs.Nearer.{Nearer, nearer_one, nearer_than, same_value}
use Rattle.relay_math.proofs.Patterns.{Even, evened, zeros, value_shrink, value_normal, value_subnormal, above_bits}
use Rattle.relay_math.proofs.Rounding.{exact_at, nearest_24, size_24, rounding_at, range_inside, below_power}
use Rattle.relay_math.proofs.Scale.{four, four_pos, nearest_scale, size_root, odd_same, exact_same, same_rounding, same_range}
use Rattle.relay_math.proofs.Special.{negative, root_special, root_above}
pub use Rattle.relay_math.proofs.Nearest.{Within, root_nearest}
pub use Rattle.relay_math.proofs.Scale.{exact_value, digits_kept}
pub use Rattle.relay_math.proofs.WholeRoot.{whole_root_is, root_unique}

-- ---- the special operands
-- NaN is its own root
pub root_of_nan : root nan ≡ nan
unfolding root_of special_operands_of
root_of_nan = refl

-- so is plus infinity
pub root_of_infinity : root (inf false) ≡ inf false
unfolding root_of special_operands_of
root_of_infinity = refl

-- and a zero, with its sign
pub root_of_zero : (x : Float) → T (eq x f32_zero) → root x ≡ x
unfolding root_of special_operands_of eq of_bits
root_of_zero nan h = absurd h
root_of_zero (inf s) h = absurd h
root_of_zero (fin s zero e) h = refl
root_of_zero (fin s (suc m) e) h =
    let z : suc m * up e * 1 ≡ 0 * 1 * down e = eqb→eq (suc m * up e * 1) (0 * 1 * down e) (and_l (eqb (suc m * up e * 1) (0 * 1 * down e)) (beq s false || eqb (suc m * up e * 1) 0) h) in
    let k : 0 < suc m * up e = mul-pos (zero-lt-suc m) (up_pos e) in
    absurd (omega (arith, zero-mul (down e)))

-- what is below zero has no root
pub root_of_negative : (x : Float) → T (lt x f32_zero) → root x ≡ nan
unfolding of_bits
root_of_negative x h = sym (root_special x nan (sym (negative x (is_true (lt x f32_zero) h))))

-- a finite number above zero has no rule of its own
not_special : (x : Float) → T (positive x) → special_operands_of x ≡ None
unfolding special_operands_of
not_special nan p = absurd p
not_special (inf s) p = absurd p
not_special (fin true m e) p = absurd p
not_special (fin false zero e) p = absurd p
not_special (fin false (suc m) e) p = refl

-- ---- x as n * 4 ^ e / 4 ^ 173, where the root of n has 24 digits
record Form (x : Float) : Type 0 where
  pub n : ℕ
  pub e : ℕ
  pub low : 2 ^ 46 ≤ n
  pub high : n ≤ 2 ^ 48 - 2 ^ 24
  pub least : 75 ≤ e
  pub most : e ≤ 213
  pub value : HasValue x false (n * 4 ^ e) (4 ^ 173)

form_of : (x : Float) (m c : ℕ) → HasValue x false (m * 2 ^ c) (4 ^ 173) → Even m c (c % 2) → Form x
form_of x m c v e = record { n = m * (16777216 - c % 2 * 8388608); e = (c - 24 + c % 2) / 2; low = e.0; high = e.1; least = e.2; most = e.3; value = rw e.4 v }

bits_form : (b : ℕ) → 0 < b → b < 2139095040 → Form (of_bits binary32 b)
bits_form b p h = go (dec_le 8388608 b)
  where
    small : b < 8388608 → Form (of_bits binary32 b)
    small g =
        let k = count_leading_zeros 32 b - 8 in
        let z = zeros b p g in
        form_of (of_bits binary32 b) (b * 2 ^ k) (197 - k) (value_subnormal b k g (omega (arith, z.1))) (evened (b * 2 ^ k) (197 - k) z.2 z.3 (omega (arith, z.1)) (omega (arith, z.0)))

    go : Dec (8388608 ≤ b) → Form (of_bits binary32 b)
    go (yes g) = form_of (of_bits binary32 b) (b % 8388608 + 8388608) (b / 8388608 + 196) (value_normal b g h) (evened (b % 8388608 + 8388608) (b / 8388608 + 196) (omega arith) (omega arith) (omega arith) (omega arith))
    go (no f) = small (lt_of_not-le f)

form : (x : Float) → T (fits binary32 x) → T (positive x) → Form x
form x h p = let b = above_bits x h (not_special x p) in subst Form (of_bits-to_bits binary32 x h) (bits_form (to_bits binary32 x) b.0 b.1)

-- one value for a denominator
one_value : (x : Float) (a b c : ℕ) → HasValue x false a c → HasValue x false b c → a ≡ b
one_value nan a b c v w = absurd v
one_value (inf s) a b c v w = absurd v
one_value (fin s m e) a b c v w = eq_of_mul-eq-mul_right (down e) (down_pos e) a b (sym v.1 ∙ w.1)

module _ (x : Float) (h : T (fits binary32 x)) (p : T (positive x)) where
  own : Form x
  own = form x h p

  -- its digits, and its exponent in smallest values
  abbrev r : ℕ
  r = nearest_root_of own.n 0

  abbrev j : ℕ
  j = own.e - 24

  digits : (2 ^ 23 ≤ r) × (r < 2 ^ 24)
  digits = nearest_24 own.n own.low own.high

  abbrev exact : Exact
  exact = exact_at own.n own.e

  rounded : rounding binary32 (unlimited_precision_of x) ≡ odd 25 false r own.e 173
  rounded =
      same_rounding binary32 (unlimited_precision_of x) exact (exact_same x false (own.n * 4 ^ own.e) 173 own.value) (mul-pos (lt_of_lt_of_le (lit< tt) own.low) (four_pos own.e))
      ∙ rounding_at own.n own.e own.low own.high

  -- ---- the exponent's range
  -- it changes nothing
  pub range_changes_nothing : exponent_range_of binary32 (unlimited_precision_of x) (rounding binary32 (unlimited_precision_of x)) ≡ rounding binary32 (unlimited_precision_of x)
  range_changes_nothing =
      let y = odd 25 false r own.e 173 in
      same_range binary32 (unlimited_precision_of x) exact (exact_same x false (own.n * 4 ^ own.e) 173 own.value) (rounding binary32 (unlimited_precision_of x))
      ∙ ap (exponent_range_of binary32 exact) rounded
      ∙ range_inside own.n own.e own.low own.high r digits.0 digits.1 (lit≤ tt) (le_trans (lit≤ tt) own.least) own.most
      ∙ sym rounded

  -- the rounded root is below 2 ^ 128, from where on it would overflow
  pub root_below : T (lt (rounding binary32 (unlimited_precision_of x)) (fin false 1 (pos 128)))
  root_below =
      let s : r * 2 ^ own.e < 2 ^ 128 * 2 ^ 173 = lt_of_lt_of_le (mul-lt-mul_of_pos_right digits.1 (pow_pos own.e)) (le_trans (mul-le-mul_left (2 ^ 24) (pow_mono own.most)) (lit≤ tt)) in
      rw (rounded, below_power (odd 25 false r own.e 173) (r * 2 ^ own.e) (2 ^ 173) 128 (pow_pos 173) (odd_sign 25 false r own.e 173)) (lt→ltb (r * 2 ^ own.e) (2 ^ 128 * 2 ^ 173) s)

  -- and at least 2 ^ -126, the least normal number
  pub root_normal : T (le (fin false 1 (negsuc 125)) (rounding binary32 (unlimited_precision_of x)))
  root_normal =
      rw rounded
      (le_of_values (fin false 1 (negsuc 125)) (odd 25 false r own.e 173) 1 (2 ^ 126) (r * 2 ^ own.e) (2 ^ 173) (pow_pos 126) (pow_pos 173) (refl, refl) (odd_sign 25 false r own.e 173)
      (le_trans (lit≤ tt) (mul-le-mul_right (2 ^ 126) (mul-le-mul digits.0 (pow_mono own.least)))))

  -- so the root is the rounded exact root
  pub root_rounded : root x ≡ rounding binary32 (unlimited_precision_of x)
  root_rounded = sym (root_above x (not_special x p)) ∙ range_changes_nothing

  -- ---- in smallest values
  root_odd : root x ≡ odd 25 false r j 149
  root_odd = root_rounded ∙ rounded ∙ odd_same 25 false r own.e 173 j 149 (let l = own.least in omega arith)

  in_units : HasValue (root x) false (r * 2 ^ j) (2 ^ 149)
  in_units = rw root_odd (odd_sign 25 false r j 149)

  under : r * 2 ^ j < 2 ^ 277
  under =
      let m : j ≤ 253 = let k = own.most in omega arith in
      lt_of_lt_of_le (mul-lt-mul_of_pos_right digits.1 (pow_pos j)) (mul-le-mul_left (2 ^ 24) (pow_mono m))

  -- the root is an f32
  pub root_fits : T (fits binary32 (root x))
  root_fits = rw root_odd (odd-fits binary32 25 false r j (lt_of_lt_of_le digits.1 (lit≤ tt)) (le_of_lt digits.1) under)

  -- it keeps 24 digits
  pub root_digits : (q k : ℕ) × (2 ^ 23 ≤ q) × (q < 2 ^ 24) × HasValue (root x) false (q * 2 ^ k) (2 ^ 149)
  root_digits = (r, j, digits.0, digits.1, in_units)

  square_units : HasValue x false (own.n * 4 ^ j) (4 ^ 149)
  square_units =
      let e : j + 24 ≡ own.e = sub-add_cancel (le_trans (lit≤ tt) own.least) in
      let wide : own.n * 4 ^ own.e ≡ own.n * 4 ^ j * 4 ^ 24 = ap (λ (k : ℕ). own.n * 4 ^ k) (sym e) ∙ ap (λ (y : ℕ). own.n * y) (pow-add 4 j 24) ∙ sym (mul_assoc own.n (4 ^ j) (4 ^ 24)) in
      value_shrink x false (own.n * 4 ^ j) (4 ^ 149) (4 ^ 24) (four_pos 24) (rw (sym wide) own.value)

  -- x is a whole number of squares of smallest values
  pub radicand_units : (n : ℕ) × HasValue x false n (4 ^ 149)
  radicand_units = (own.n * 4 ^ j, square_units)

  units_are : (n : ℕ) → HasValue x false n (4 ^ 149) → n ≡ own.n * 4 ^ j
  units_are n v = one_value x n (own.n * 4 ^ j) (4 ^ 149) v square_units

  -- in other words: √n smallest values with all but 24 digits dropped, and no range but that of `units`
  pub root_in_units : (n : ℕ) → HasValue x false n (4 ^ 149) → root x ≡ units binary32 false (nearest_root_of n (size (whole_root_of n) - 24)) (size (whole_root_of n) - 24)
  unfolding units
  root_in_units n v =
      let dropped : size (whole_root_of n) - 24 ≡ j =
      ap (λ (y : ℕ). size (whole_root_of y) - 24) (units_are n v) ∙ ap (λ (y : ℕ). y - 24) (size_root own.n j (lt_of_lt_of_le (lit< tt) own.low) ∙ ap (λ (y : ℕ). y + j) (size_24 own.n own.low own.high)) ∙ add-sub_cancel_left 24 j in
      let kept : nearest_root_of n j ≡ r = ap (λ (y : ℕ). nearest_root_of y j) (units_are n v) ∙ ap (nearest_root_of (own.n * 4 ^ j)) (sym (zero-add j)) ∙ nearest_scale own.n 0 j in
      root_odd
      ∙ sym (ap (λ (k : ℕ). units binary32 false (nearest_root_of n k) k) dropped ∙ ap (λ (q : ℕ). units binary32 false q j) kept ∙ ap (λ (b : Bool). cond b (odd 25 false r j 149) (inf false)) (is_true (ltb (r * 2 ^ j) (2 ^ 277)) (lt→ltb (r * 2 ^ j) (2 ^ 277) under)))

  -- ---- the nearest f32
  -- No finite f32 from zero up is nearer to the exact root, √n smallest values, than the root, b of them, and none but the root is as near. What is below zero is further off than zero.
  pub root_nearest_f32 : (n b : ℕ) → HasValue x false n (4 ^ 149) → HasValue (root x) false b (2 ^ 149) → (z : Float) (a : ℕ) → T (fits binary32 z) → HasValue z false a (2 ^ 149) → Nearer n b a
  root_nearest_f32 n b v w z a t u =
      subst (λ (y : ℕ). Nearer n y a) (one_value (root x) (r * 2 ^ j) b (2 ^ 149) in_units w)
      (subst (λ (y : ℕ). Nearer y (r * 2 ^ j) a) (ap (λ (y : ℕ). own.n * y) (sym (four j)) ∙ sym (units_are n v)) (nearer_than own.n j a z own.low own.high t u))

  -- so an f32 that no other is nearer than, or as near, is the root
  pub root_determined : (y : Float) (n b : ℕ) → T (fits binary32 y) → HasValue x false n (4 ^ 149) → HasValue y false b (2 ^ 149)
      → ((z : Float) (a : ℕ) → T (fits binary32 z) → HasValue z false a (2 ^ 149) → Nearer n b a) → y ≡ root x
  root_determined y n b t v w all =
      let a = r * 2 ^ j in
      let one : b ≡ a = nearer_one n b a (root_nearest_f32 n a v in_units y b t w) (all (root x) a root_fits in_units) in
      same_value y (root x) b t root_fits w (subst (λ (c : ℕ). HasValue (root x) false c (2 ^ 149)) (sym one) in_units)

-- ---- a finite number from zero up has a finite root from zero up
value_finite : (x : Float) (a c : ℕ) → HasValue x false a c → T (finite x)
value_finite nan a c h = absurd h
value_finite (inf s) a c h = absurd h
value_finite (fin s m e) a c h = tt

value_from_zero : (x : Float) (a : ℕ) → HasValue x false a (2 ^ 149) → T (le f32_zero x)
unfolding of_bits
value_from_zero x a h = le_of_values f32_zero x 0 1 a (2 ^ 149) (lit< tt) (pow_pos 149) (refl, refl) h zero-le

not_below : (m : ℕ) (e : ℤ) → T (le f32_zero (fin true (suc m) e)) → ⊥
unfolding le lt eq of_bits
not_below m e h =
    let z : 0 * 1 * down e ≡ suc m * up e * 1 = eqb→eq (0 * 1 * down e) (suc m * up e * 1) (and_l (eqb (0 * 1 * down e) (suc m * up e * 1)) (eqb (0 * 1 * down e) 0) h) in
    let k : 0 < suc m * up e = mul-pos (zero-lt-suc m) (up_pos e) in
    omega (arith, zero-mul (down e))

zeros_level : (s : Bool) (e : ℤ) → T (le f32_zero (fin s 0 e))
unfolding le lt eq of_bits
zeros_level true e = rw (zero-mul (up e), zero-mul (down e)) tt
zeros_level false e = rw (zero-mul (up e), zero-mul (down e)) tt

pub root_finite : (x : Float) → T (fits binary32 x) → T (finite x) → T (le f32_zero x) → T (finite (root x)) × T (le f32_zero (root x))
unfolding root_of special_operands_of of_bits
root_finite nan h f l = absurd f
root_finite (inf s) h f l = absurd f
root_finite (fin s zero e) h f l = (tt, zeros_level _ _)
root_finite (fin true (suc m) e) h f l = absurd (not_below m e l)
root_finite (fin false (suc m) e) h f l =
    let x = fin false (suc m) e in
    let v = root_digits x h (lt→ltb 0 (suc m) (zero-lt-suc m)) in
    let a = v.0 * 2 ^ v.1 in
    (value_finite (root x) a (2 ^ 149) v.4, value_from_zero (root x) a v.4)
