-- An f32 and at most one second more is finite, since the largest f32 and 1.0 more rounds to the largest f32.
use Rattle.std.proofs.Common.{◌≡◌, ℕ, zero, suc, ◌+◌, ◌-◌, ◌*◌, ◌%◌, ◌^◌, ◌<◌, ◌≤◌, Bool, true, false, cond, not, ◌&&◌, T, eqb, ltb, leb, ℤ, pos, negsuc, sym, ap, ◌∙◌, subst, zero-le, le_trans, le_of_eq, le_refl, le_of_lt, mul-le-mul_right, mul_assoc, mul_comm, add-mul, mul-le-mul, lt_of_mul-lt-mul_right, mul-pos, one-mul, zero-mul, mul-one, sub-add_cancel, sub-le, arith, lit<, lit≤, eqb→eq, ltb→lt, leb→le, pow_pos, pow_mono, pow-add}
use mathlib.Core.Bool.{beq}
use lib.Dec.{nleb→lt}
use lib.Ieee.{Float, nan, inf, fin, Format, binary32, prec, low, up, down, of_bits, odd, units, round, sum, add, le, fits}
use lib.Ieee.Fits.{down_pos, and_l, and_r, round_is}
use lib.Ieee.Order.{drop, kept}
use lib.Ieee.Positive.{num, den}
use lib.Ieee.Scale.{finite, overflow}
use Rattle.relay_math.specs.Small.{f32_zero, f32_one}
use Rattle.relay_batt.specs.Bounds.{Within}
use Rattle.relay_batt.proofs.Bounds.{within_finite}
use Rattle.relay_batt.proofs.NonNeg.{NonNeg, plus, nonneg_is, nonneg_finite, rounded, le→cross}

-- ---- a rounded fraction below a finite one is finite, whatever its sign
odd_finite : (d : ℕ) (s : Bool) (q k l : ℕ) → T (finite (odd d s q k l))
unfolding odd
odd_finite d s zero k l = tt
odd_finite d s (suc q) k l = tt

units_sign : (f : Format) (s : Bool) (q k : ℕ) → T (finite (units f false q k)) → T (finite (units f s q k))
unfolding units
units_sign f s q k = go (ltb (q * 2 ^ k) (overflow f))
  where
    go : (b : Bool) → T (finite (cond b (odd (suc (prec f)) false q k (low f)) (inf false))) → T (finite (cond b (odd (suc (prec f)) s q k (low f)) (inf s)))
    go true t = odd_finite (suc (prec f)) s q k (low f)
    go false t = absurd t

round_finite : (f : Format) (s : Bool) (a c b d : ℕ) → 0 < c → 0 < d → a * d ≤ b * c → NonNeg (round f false b d) → T (finite (round f s a c))
round_finite f s a c b d C D h g =
    let l = 2 ^ low f in
    subst (λ (z : Float). T (finite z)) (sym (round_is f s a c))
    (units_sign f s (kept (prec f) (a * l) c) (drop (prec f) (a * l) c)
    (subst (λ (z : Float). T (finite z)) (round_is f false a c) (nonneg_finite (rounded f a c b d C D h g).good)))

-- ---- the size of an f32
-- the largest f32
abbrev largest : ℕ
largest = 16777215 * 2 ^ 104

below_24 : (q : ℕ) → q < 16777216 → q ≤ 16777215
below_24 q h = omega arith

cut : (q p : ℕ) → q * p < 16777216 * p → q * p ≤ 16777215 * p
cut q p h = mul-le-mul_right p (below_24 q (lt_of_mul-lt-mul_right p h))

-- m * 2 ^ k with m below 2 ^ 24, and itself below 2 ^ 128
whole_small : (m k : ℕ) → m < 16777216 → m * 2 ^ k < 2 ^ 128 → m * 2 ^ k ≤ largest
whole_small m k h g = go (leb 104 k) (leb→le 104 k) (nleb→lt 104 k)
  where
    go : (b : Bool) → (T b → 104 ≤ k) → (T (not b) → k < 104) → m * 2 ^ k ≤ largest
    go true p q =
        let j = k - 104 in
        let e : m * 2 ^ k ≡ m * 2 ^ j * 2 ^ 104 = ap (λ (z : ℕ). m * 2 ^ z) (sym (sub-add_cancel (p tt))) ∙ ap (λ (z : ℕ). m * z) (pow-add 2 j 104) ∙ sym (mul_assoc m (2 ^ j) (2 ^ 104)) in
        subst (λ (z : ℕ). z ≤ largest) (sym e) (cut (m * 2 ^ j) (2 ^ 104) (subst (λ (z : ℕ). z < 2 ^ 128) e g))
    go false p q = mul-le-mul (below_24 m h) (pow_mono (le_of_lt (q tt)))

size_small : (m : ℕ) (e : ℤ) → m < 16777216 → m * up e < 2 ^ 128 * down e → m * up e ≤ largest * down e
size_small m (pos k) h g = subst (λ (z : ℕ). m * 2 ^ k ≤ z) (sym (mul-one largest)) (whole_small m k h (subst (λ (z : ℕ). m * 2 ^ k < z) (mul-one (2 ^ 128)) g))
size_small m (negsuc k) h g = mul-le-mul (le_trans (below_24 m h) (lit≤ tt)) (pow_pos (suc k))

pub fits_small : (x : Float) → T (finite x) → T (fits binary32 x) → num x ≤ largest * den x
unfolding fits
fits_small nan p t = absurd p
fits_small (inf s) p t = absurd p
fits_small (fin s zero e) p t = subst (λ (z : ℕ). z ≤ largest * down e) (sym (zero-mul (up e))) zero-le
fits_small (fin s (suc m) e) p t =
    let odd-test = eqb (suc m % 2) 1 in
    let digits = ltb (suc m) (2 ^ 24) in
    let last = leb (down e) (2 ^ 149) in
    let range = ltb (suc m * up e) (2 ^ 128 * down e) in
    size_small (suc m) e (ltb→lt (suc m) (2 ^ 24) (and_r odd-test digits (and_l (odd-test && digits) last (and_l (odd-test && digits && last) range t))))
    (ltb→lt (suc m * up e) (2 ^ 128 * down e) (and_r (odd-test && digits && last) range t))

-- ---- at most one second
no_more : (m u d : ℕ) → 0 * d ≡ m * u * 1 → m * u ≤ d
no_more m u d e = let z = zero-mul d in let o = mul-one (m * u) in omega arith

seconds : (y : Float) → Within f32_zero f32_one y → num y ≤ den y
unfolding of_bits le
seconds nan w = zero-le
seconds (inf s) w = zero-le
seconds (fin true m e) w = no_more m (up e) (down e) (eqb→eq (0 * down e) (m * up e * 1) (and_l (eqb (0 * down e) (m * up e * 1)) (eqb (0 * down e) 0) w.low))
seconds (fin false m e) w = let h = le→cross (plus m e) (nonneg_is f32_one tt) w.high in omega (arith, mul-one (m * up e), one-mul (down e))

-- ---- their sum
left : (a b : ℕ) → a ≤ a + b
left a b = omega arith

right : (a b : ℕ) → b ≤ a + b
right a b = omega arith

together : (a b c m : ℕ) → a ≤ m * c → b ≤ c → (z : ℕ) → z ≤ a + b → z * 1 ≤ (m + 1) * c
together a b c m h k z l = let e = add-mul m 1 c in omega arith

add_small : (f : Format) (x y : Float) (m : ℕ) → T (finite x) → T (finite y) → num x ≤ m * den x → num y ≤ den y → NonNeg (round f false (m + 1) 1) → T (finite (add f x y))
unfolding add sum
add_small f nan y m p q h k g = absurd p
add_small f (inf s) y m p q h k g = absurd p
add_small f (fin s n e) nan m p q h k g = absurd q
add_small f (fin s n e) (inf t) m p q h k g = absurd q
add_small f (fin s n e) (fin t o d) m p q h k g = go (beq s t) (ltb a b)
  where
    a : ℕ
    a = n * up e * down d

    b : ℕ
    b = o * up d * down e

    c : ℕ
    c = down e * down d

    a_le : a ≤ m * c
    a_le = le_trans (mul-le-mul_right (down d) h) (le_of_eq (mul_assoc m (down e) (down d)))

    b_le : b ≤ c
    b_le = le_trans (mul-le-mul_right (down e) k) (le_of_eq (mul_comm (down d) (down e)))

    small : (u : Bool) (z : ℕ) → z ≤ a + b → T (finite (round f u z c))
    small u z l = round_finite f u z c (m + 1) 1 (mul-pos (down_pos e) (down_pos d)) (lit< tt) (together a b c m a_le b_le z l) g

    go : (x y : Bool) → T (finite (cond x (round f s (a + b) c) (cond y (round f t (b - a) c) (round f (s && ltb b a) (a - b) c))))
    go true y = small s (a + b) (le_refl (a + b))
    go false true = small t (b - a) (le_trans (sub-le b a) (right a b))
    go false false = small (s && ltb b a) (a - b) (le_trans (sub-le a b) (left a b))

largest_kept : NonNeg (round binary32 false (largest + 1) 1)
unfolding round
largest_kept = plus _ _

-- an f32 of seconds and at most one second more
pub later_finite : (x y : Float) → T (finite x) → T (fits binary32 x) → Within f32_zero f32_one y → T (finite (add binary32 x y))
unfolding of_bits
later_finite x y p t w = add_small binary32 x y largest p (within_finite f32_zero f32_one y tt tt w) (fits_small x p t) (seconds y w) largest_kept
