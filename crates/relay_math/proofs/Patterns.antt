-- The value of a pattern between zero and infinity, and the pattern of an operand above zero.
use mathlib.Core.Path.{◌≡◌, refl, sym, ap, ◌∙◌, subst}
use mathlib.Core.Bool.{Bool, true, false, ◌&&◌, cond}
use Prim.Native.Nat.{ℕ, zero, suc, ◌+◌, ◌-◌, ◌*◌, ◌/◌, ◌%◌, ◌^◌, ◌≤◌, ◌<◌}
use native.Mathlib.Nat.{le_trans, le_of_eq, le_of_lt, lt_of_lt_of_le, lt_of_le_of_lt, lt_of_not-le, not-le_of_lt, zero-lt-suc, add-sub_of_le, mod-eq_of_lt, one-mul, mul_assoc, mul_right_comm, eq_of_mul-eq-mul_right, mul-pos, mul-le-mul, mul-le-mul_right, mul-lt-mul_of_pos_right, le-div_iff_mul-le, div-lt_iff_lt-mul}
use native.Mathlib.Omega.{arith}
use lib.IntN.{ℤ}
use lib.Dec.{T, leb, ltb, eqb, leb→le, ltb→lt, eqb→eq, not_T}
use lib.Pow.{pow-add, pow_pos, pow_mono}
use lib.Count.{count_leading_zeros, leading_top}
use lib.Ieee.{Float, nan, inf, fin, binary32, up, down, size, odd, fits, is_nan, of_fields, of_bits, to_bits}
use lib.Ieee.Bits.{is_false, cond_no}
use lib.Ieee.Exact.{HasValue, odd_sign}
use lib.Ieee.Digits.{size-lt, size-le, size_reaches}
use lib.Ieee.Fits.{and_l, and_r, up_pos, down_pos, kept-lt}
use Rattle.relay_math.specs.Root.{special_operands_of}
use Rattle.std.proofs.Common.{None}
use Rattle.relay_math.proofs.Scale.{four}

-- ---- the fields of a pattern
of_bits_is : (b : ℕ) → of_bits binary32 b ≡ of_fields binary32 (leb 2147483648 b) (b % 2147483648 / 8388608) (b % 8388608)
unfolding of_bits
of_bits_is b = refl

plus : (b : ℕ) → b < 2147483648 → of_bits binary32 b ≡ of_fields binary32 false (b / 8388608) (b % 8388608)
plus b h =
    of_bits_is b
    ∙ ap (λ (s : Bool). of_fields binary32 s (b % 2147483648 / 8388608) (b % 8388608)) (is_false (leb 2147483648 b) (not_T (leb 2147483648 b) (λ (t : T (leb 2147483648 b)). not-le_of_lt h (leb→le 2147483648 b t))))
    ∙ ap (λ (x : ℕ). of_fields binary32 false (x / 8388608) (b % 8388608)) (mod-eq_of_lt h)

-- a field that is neither 0 nor all ones
field : (s : Bool) (x t : ℕ) → suc x < 255 → of_fields binary32 s (suc x) t ≡ odd 24 s (8388608 + t) x 149
unfolding of_fields
field s x t h = cond_no (eqb (suc x) 255) (cond (eqb t 0) (inf s) nan) (odd 24 s (8388608 + t) x 149) (not_T (eqb (suc x) 255) (λ (u : T (eqb (suc x) 255)). differ (eqb→eq (suc x) 255 u)))
  where
    differ : suc x ≡ 255 → ⊥
    differ e = omega arith

-- ---- above zero
module _ (b : ℕ) where
  normal : 8388608 ≤ b → b < 2139095040 → of_bits binary32 b ≡ odd 24 false (8388608 + b % 8388608) (b / 8388608 - 1) 149
  normal h k =
      let e : b / 8388608 ≡ suc (b / 8388608 - 1) = omega arith in
      plus b (omega arith) ∙ ap (λ (x : ℕ). of_fields binary32 false x (b % 8388608)) e ∙ field false (b / 8388608 - 1) (b % 8388608) (omega arith)

  subnormal : b < 8388608 → of_bits binary32 b ≡ odd 24 false b 0 149
  unfolding of_fields
  subnormal h =
      let e : b / 8388608 ≡ 0 = omega arith in
      plus b (omega arith) ∙ ap (λ (x : ℕ). of_fields binary32 false x (b % 8388608)) e ∙ ap (λ (t : ℕ). odd 24 false t 0 149) (mod-eq_of_lt h)

-- a value as a larger fraction, and as a smaller one
value_scale : (x : Float) (s : Bool) (a c t : ℕ) → HasValue x s a c → HasValue x s (a * t) (c * t)
value_scale nan s a c t h = absurd h
value_scale (inf i) s a c t h = absurd h
value_scale (fin i m e) s a c t h = (h.0, sym (mul_assoc (m * up e) c t) ∙ ap (λ (y : ℕ). y * t) h.1 ∙ mul_right_comm a (down e) t)

pub value_shrink : (x : Float) (s : Bool) (a c t : ℕ) → 0 < t → HasValue x s (a * t) (c * t) → HasValue x s a c
value_shrink nan s a c t p h = absurd h
value_shrink (inf i) s a c t p h = absurd h
value_shrink (fin i m e) s a c t p h = (h.0, eq_of_mul-eq-mul_right t p (m * up e * c) (a * down e) (mul_assoc (m * up e) c t ∙ h.1 ∙ mul_right_comm a t (down e)))

-- q * 2 ^ k smallest values, over 4 ^ 173
value_of_odd : (q k : ℕ) → HasValue (odd 24 false q k 149) false (q * 2 ^ (k + 197)) (4 ^ 173)
value_of_odd q k =
    subst (λ (a : ℕ). HasValue (odd 24 false q k 149) false a (4 ^ 173)) (mul_assoc q (2 ^ k) (2 ^ 197) ∙ ap (λ (y : ℕ). q * y) (sym (pow-add 2 k 197)))
    (value_scale (odd 24 false q k 149) false (q * 2 ^ k) (2 ^ 149) (2 ^ 197) (odd_sign 24 false q k 149))

pub value_normal : (b : ℕ) → 8388608 ≤ b → b < 2139095040 → HasValue (of_bits binary32 b) false ((b % 8388608 + 8388608) * 2 ^ (b / 8388608 + 196)) (4 ^ 173)
value_normal b h k =
    let m : 8388608 + b % 8388608 ≡ b % 8388608 + 8388608 = omega arith in
    let e : b / 8388608 - 1 + 197 ≡ b / 8388608 + 196 = omega arith in
    rw (normal b h k)
    (subst (λ (a : ℕ). HasValue (odd 24 false (8388608 + b % 8388608) (b / 8388608 - 1) 149) false a (4 ^ 173)) (ap (λ (y : ℕ). y * 2 ^ (b / 8388608 - 1 + 197)) m ∙ ap (λ (y : ℕ). (b % 8388608 + 8388608) * 2 ^ y) e)
    (value_of_odd (8388608 + b % 8388608) (b / 8388608 - 1)))

-- what `leading_zeros` gives below 2 ^ 23: a shift that leaves 24 digits
pub zeros : (b : ℕ) → 0 < b → b < 8388608
    → (9 ≤ count_leading_zeros 32 b) × (count_leading_zeros 32 b ≤ 31) × (8388608 ≤ b * 2 ^ (count_leading_zeros 32 b - 8)) × (b * 2 ^ (count_leading_zeros 32 b - 8) < 16777216)
zeros b p h =
    let z = count_leading_zeros 32 b in
    let t = leading_top 32 b p (wide b h) in
    let j = t.0 in
    let j-lt : j < 23 = short j (lt_of_le_of_lt t.2 h) in
    let e : z - 8 ≡ 23 - j = less z j t.1 in (
      omega (arith, t.1),
      omega (arith, t.1),
      le_trans (le_of_eq (top j 23 (le_of_lt j-lt) ∙ ap (λ (x : ℕ). 2 ^ j * 2 ^ x) (sym e))) (mul-le-mul_right (2 ^ (z - 8)) t.2),
      lt_of_lt_of_le (mul-lt-mul_of_pos_right t.3 (pow_pos (z - 8))) (le_of_eq (ap (λ (x : ℕ). 2 ^ suc j * 2 ^ x) (e ∙ next j) ∙ sym (top (suc j) 24 (suc_le j j-lt)))),
    )
  where
    wide : (x : ℕ) → x < 8388608 → x < 2 ^ 32
    wide x k = omega arith

    short : (j : ℕ) → 2 ^ j < 2 ^ 23 → j < 23
    short j k = lt_of_not-le (λ (g : 23 ≤ j). not-le_of_lt k (pow_mono g))

    less : (z j : ℕ) → z + suc j ≡ 32 → z - 8 ≡ 23 - j
    less z j k = omega arith

    next : (j : ℕ) → 23 - j ≡ 24 - suc j
    next j = omega arith

    suc_le : (j : ℕ) → j < 23 → suc j ≤ 24
    suc_le j k = omega arith

    top : (j k : ℕ) → j ≤ k → 2 ^ k ≡ 2 ^ j * 2 ^ (k - j)
    top j k g = ap (λ (x : ℕ). 2 ^ x) (sym (add-sub_of_le g)) ∙ pow-add 2 j (k - j)

pub value_subnormal : (b k : ℕ) → b < 8388608 → k ≤ 197 → HasValue (of_bits binary32 b) false (b * 2 ^ k * 2 ^ (197 - k)) (4 ^ 173)
value_subnormal b k h g =
    rw (subnormal b h)
    (subst (λ (a : ℕ). HasValue (odd 24 false b 0 149) false a (4 ^ 173)) (sym (mul_assoc b (2 ^ k) (2 ^ (197 - k)) ∙ ap (λ (x : ℕ). b * x) (sym (pow-add 2 k (197 - k)) ∙ ap (λ (x : ℕ). 2 ^ x) (add-sub_of_le g))))
    (value_of_odd b 0))

-- ---- the pattern of an operand above zero
-- a number of at least one and below 2 ^ 277 smallest values
units_of : (m : ℕ) (e : ℤ) → T (fits binary32 (fin false (suc m) e)) → (0 < suc m * up e * 2 ^ 149 / down e) × (suc m * up e * 2 ^ 149 / down e < 2 ^ 277)
unfolding fits
units_of m e h =
    let three = eqb (suc m % 2) 1 && ltb (suc m) (2 ^ 24) in
    let d : down e ≤ 2 ^ 149 = leb→le (down e) (2 ^ 149) (and_r three (leb (down e) (2 ^ 149)) (and_l (three && leb (down e) (2 ^ 149)) (ltb (suc m * up e) (2 ^ 128 * down e)) h)) in
    let t : suc m * up e < 2 ^ 128 * down e = ltb→lt (suc m * up e) (2 ^ 128 * down e) (and_r (three && leb (down e) (2 ^ 149)) (ltb (suc m * up e) (2 ^ 128 * down e)) h) in
    let w : suc m * up e * 2 ^ 149 < 2 ^ 277 * down e = lt_of_lt_of_le (mul-lt-mul_of_pos_right t (pow_pos 149)) (le_of_eq (mul_right_comm (2 ^ 128) (down e) (2 ^ 149))) in
    let one : 1 * down e ≤ suc m * up e * 2 ^ 149 = mul-le-mul (mul-pos (zero-lt-suc m) (up_pos e)) d in
    ((le-div_iff_mul-le (down_pos e)).1 one, (div-lt_iff_lt-mul (down_pos e)).1 w)

pub above_number : (x : Float) → special_operands_of x ≡ None → is_nan x ≡ false
unfolding special_operands_of is_nan
above_number nan a = cc
above_number (inf s) a = refl
above_number (fin s m e) a = refl

-- the patterns between zero's and infinity's
pub above_bits : (x : Float) → T (fits binary32 x) → special_operands_of x ≡ None → (0 < to_bits binary32 x) × (to_bits binary32 x < 2139095040)
unfolding special_operands_of to_bits
above_bits nan h a = cc
above_bits (inf false) h a = cc
above_bits (inf true) h a = cc
above_bits (fin s zero e) h a = cc
above_bits (fin true (suc m) e) h a = cc
above_bits (fin false (suc m) e) h a =
    let u = units_of m e h in
    let n = suc m * up e * 2 ^ 149 / down e in
    let k = size n - 24 in
    let kept : 0 < n / 2 ^ k = (le-div_iff_mul-le (pow_pos k)).1 (le_trans (le_of_eq (one-mul (2 ^ k))) (size_reaches n k (fewer (size n) (size-lt n)))) in
    let top : k ≤ 253 = few (size n) (size-le n 277 u.1) in
    bounds k (n / 2 ^ k) top kept (kept-lt 24 n)
  where
    fewer : (s : ℕ) → suc m * up e * 2 ^ 149 / down e < 2 ^ s → s - 24 < s
    fewer zero g = absurd (let p = (units_of m e h).0 in omega arith)
    fewer (suc s) g = omega arith

    few : (s : ℕ) → s ≤ 277 → s - 24 ≤ 253
    few s g = omega arith

    bounds : (k q : ℕ) → k ≤ 253 → 0 < q → q < 16777216 → (0 < 0 + k * 8388608 + q) × (0 + k * 8388608 + q < 2139095040)
    bounds k q g p l = (omega arith, omega arith)

-- ---- the radicand's exponent made even
split : (m h j c : ℕ) → h + (j + j) ≡ c → m * 2 ^ h * 4 ^ j ≡ m * 2 ^ c
split m h j c e = mul_assoc m (2 ^ h) (4 ^ j) ∙ ap (λ (x : ℕ). m * x) (ap (λ (x : ℕ). 2 ^ h * x) (four j ∙ sym (pow-add 2 j j)) ∙ sym (pow-add 2 h (j + j)) ∙ ap (λ (x : ℕ). 2 ^ x) e)

abbrev pub Even : ℕ → ℕ → ℕ → Type 0
Even m c o =
    let n = m * (16777216 - o * 8388608) in
    let j = (c - 24 + o) / 2 in
    (2 ^ 46 ≤ n) × (n ≤ 2 ^ 48 - 2 ^ 24) × (75 ≤ j) × (j ≤ 213) × (n * 4 ^ j ≡ m * 2 ^ c)

pub evened : (m c : ℕ) → 8388608 ≤ m → m < 16777216 → 174 ≤ c → c ≤ 450 → Even m c (c % 2)
evened m c l u a b = go (c % 2) refl
  where
    go : (o : ℕ) → c % 2 ≡ o → Even m c o
    go zero e = (omega arith, omega arith, omega arith, omega arith, split m 24 ((c - 24 + 0) / 2) c (omega arith))
    go (suc zero) e = (omega arith, omega arith, omega arith, omega arith, split m 23 ((c - 24 + 1) / 2) c (omega arith))
    go (suc (suc o)) e = absurd (omega arith)
