-- Which operands are special, by the tests of `special_operands`, and the root of either sort.
use mathlib.Core.Path.{◌≡◌, refl, sym, ap, ◌∙◌}
use mathlib.Core.Bool.{Bool, true, false, true≢false}
use Prim.Native.Nat.{ℕ, zero, suc, ◌+◌, ◌*◌, ◌<◌}
use native.Mathlib.Nat.{zero-lt-suc, zero-mul, mul-pos, lt_irrefl}
use native.Mathlib.Omega.{arith}
use lib.IntN.{ℤ}
use lib.Dec.{ltb, ltb→lt, lt→ltb}
use lib.Ieee.{Float, nan, inf, fin, binary32, up, down, below, lt, of_bits}
use lib.Ieee.Bits.{is_true}
use lib.Ieee.Fits.{up_pos}
use Rattle.relay_math.specs.Small.{f32, f32_zero}
use Rattle.relay_math.specs.Root.{special_operands_of, unlimited_precision_of, rounding, exponent_range_of, root_of, root}
use Rattle.std.proofs.Common.{Some, None}

abbrev infinity : Float
infinity = f32 0x7f80_0000

-- a zero is below no zero
zero_level : (s t : Bool) (a b : ℕ) → a ≡ 0 → b ≡ 0 → below s a t b ≡ false
zero_level false false a b x y = rw (x, y)
zero_level false true a b x y = refl
zero_level true false a b x y = rw (x, y)
zero_level true true a b x y = rw (x, y)

no_more : (s : Bool) (e : ℤ) → lt f32_zero (fin s zero e) ≡ false
unfolding lt of_bits
no_more s e = zero_level false s (0 * 1 * down e) (0 * up e * 1) (zero-mul (down e)) (ap (λ (x : ℕ). x * 1) (zero-mul (up e)))

no_less : (s : Bool) (e : ℤ) → lt (fin s zero e) f32_zero ≡ false
unfolding lt of_bits
no_less s e = zero_level s false (0 * up e * 1) (0 * 1 * down e) (ap (λ (x : ℕ). x * 1) (zero-mul (up e))) (zero-mul (down e))

-- a number above zero is above it, one below zero below it
more : (m : ℕ) (e : ℤ) → lt f32_zero (fin false (suc m) e) ≡ true
unfolding lt of_bits
more m e = is_true (ltb (0 * 1 * down e) (suc m * up e * 1)) (lt→ltb (0 * 1 * down e) (suc m * up e * 1) (let p : 0 < suc m * up e = mul-pos (zero-lt-suc m) (up_pos e) in omega (arith, zero-mul (down e))))

less : (m : ℕ) (e : ℤ) → lt (fin true (suc m) e) f32_zero ≡ true
unfolding lt of_bits
less m e = is_true (ltb 0 (suc m * up e * 1 + 0 * 1 * down e)) (lt→ltb 0 (suc m * up e * 1 + 0 * 1 * down e) (let p : 0 < suc m * up e = mul-pos (zero-lt-suc m) (up_pos e) in omega arith))

-- above zero and below infinity
pub between : (x : Float) → lt f32_zero x ≡ true → lt x infinity ≡ true → None ≡ special_operands_of x
unfolding special_operands_of lt of_bits
between nan h k = absurd (true≢false (sym h))
between (inf false) h k = absurd (true≢false (sym k))
between (inf true) h k = absurd (true≢false (sym h))
between (fin s zero e) h k = absurd (true≢false (sym h ∙ no_more s e))
between (fin true (suc m) e) h k = absurd (true≢false (sym h))
between (fin false (suc m) e) h k = refl

-- above zero and not below infinity
pub infinite : (x : Float) → lt f32_zero x ≡ true → lt x infinity ≡ false → Some x ≡ special_operands_of x
unfolding special_operands_of lt of_bits
infinite nan h k = refl
infinite (inf false) h k = refl
infinite (inf true) h k = absurd (true≢false (sym h))
infinite (fin s m e) h k = absurd (true≢false k)

-- below zero: NaN
pub negative : (x : Float) → lt x f32_zero ≡ true → Some (f32 0x7fc0_0000) ≡ special_operands_of x
unfolding special_operands_of lt of_bits
negative nan h = refl
negative (inf false) h = absurd (true≢false (sym h))
negative (inf true) h = refl
negative (fin s zero e) h = absurd (true≢false (sym h ∙ no_less s e))
negative (fin true (suc m) e) h = refl
negative (fin false (suc m) e) h = absurd (lt_irrefl 0 (never m e h))
  where
    never : (m : ℕ) (e : ℤ) → ltb (suc m * up e * 1) (0 * 1 * down e) ≡ true → 0 < 0
    never m e g = absurd (let l = ltb→lt (suc m * up e * 1) (0 * 1 * down e) (rw g tt) in omega (arith, zero-mul (down e)))

-- neither
pub neither : (x : Float) → lt f32_zero x ≡ false → lt x f32_zero ≡ false → Some x ≡ special_operands_of x
unfolding special_operands_of lt of_bits
neither nan h k = refl
neither (inf false) h k = refl
neither (inf true) h k = absurd (true≢false k)
neither (fin s zero e) h k = refl
neither (fin true (suc m) e) h k = absurd (true≢false (sym (less m e) ∙ k))
neither (fin false (suc m) e) h k = absurd (true≢false (sym (more m e) ∙ h))

-- ---- the root of either sort
pub root_special : (x y : Float) → special_operands_of x ≡ Some y → y ≡ root x
unfolding root_of
root_special x y e = simp e

pub root_above : (x : Float) → special_operands_of x ≡ None → exponent_range_of binary32 (unlimited_precision_of x) (rounding binary32 (unlimited_precision_of x)) ≡ root x
unfolding root_of
root_above x e = simp e
