-- The root's rounding and exponent range, applied to an exact number a / 2 ^ l, are `round`, with which every operation of the float library that can be inexact ends: so overflow and underflow are its own.
use mathlib.Core.Path.{◌≡◌, refl, sym, ap, ◌∙◌, subst}
use mathlib.Core.Bool.{Bool, true, false, not, cond}
use Prim.Native.Nat.{ℕ, zero, suc, ◌+◌, ◌-◌, ◌*◌, ◌/◌, ◌%◌, ◌^◌, ◌≤◌, ◌<◌, compare, Ordering}
use native.Mathlib.Nat.{le_refl, le_trans, le_of_eq, lt_of_le_of_lt, lt_of_lt_of_le, zero-mul, mul-one, one-mul, mul_comm, mul_assoc, mul-mul-mul_comm, add-mul, mul-le-mul_right, mul-lt-mul_of_pos_right, mul-pos, sub-le, sub-eq-zero_of_le, add-sub_cancel, div-add-mod', le-div_iff_mul-le, div-lt_iff_lt-mul}
use native.Mathlib.Omega.{arith}
use lib.IntN.{pos, negsuc}
use lib.Dec.{T, ltb, ltb→lt, nltb→le, lt→ltb, lit<}
use lib.Pow.{pow-add, pow_pos, pow-lt, shr_lt}
use lib.Ieee.{Float, inf, fin, Format, binary32, binary64, prec, emax, low, size, nearest, odd, units, round, mul, lt}
use lib.Ieee.Digits.{size-lt, size-le, size_reaches}
use lib.Ieee.Exact.{odd_sign}
use lib.Ieee.Fits.{nearest-le, round_is}
use lib.Ieee.Nearest.{closest, closest_same}
use lib.Ieee.Bits.{is_true}
use lib.Ieee.Scale.{normal_of_fraction}
use Rattle.relay_math.specs.Root.{Exact, root_by, whole_root_of, nearest_root_of, to_digits, rounding, exponent_range_of}
use Rattle.relay_math.proofs.Nearest.{Cmp, cmp}
use Rattle.relay_math.proofs.Rounding.{below_power}
use Rattle.relay_math.proofs.Scale.{compare_is, four, size_gt, size_between, odd_same, ltb_same}
use Rattle.relay_math.proofs.Squares.{sq_suc, sq_lt, sq_lt_back}
use Rattle.relay_math.proofs.WholeRoot.{root_unique}

-- the exact number a / 2 ^ l
abbrev pub exactly : ℕ → ℕ → Exact
exactly a l = record { radicand = a * a; places = l }

-- ---- the root of a square
-- the whole root of a * a is a
root_of_square : (a : ℕ) → whole_root_of (a * a) ≡ a
root_of_square a = root_unique (a * a) a (le_refl (a * a)) (omega (arith, sq_suc a))

-- squares are in the order of their roots
sq_cmp : (o : Ordering) (a b : ℕ) → Cmp o a b → Cmp o (a * a) (b * b)
sq_cmp Ordering.lt a b h = sq_lt a b h
sq_cmp Ordering.eq a b h = ap (λ (x : ℕ). x * x) h
sq_cmp Ordering.gt a b h = sq_lt b a h

-- a = q * u + r is to q + 1 / 2 units u as r is to half a unit
half_cmp : (o : Ordering) (a q r u : ℕ) → q * u + r ≡ a → Cmp o (r * 2) u → Cmp o (2 * a) ((2 * q + 1) * u)
half_cmp Ordering.lt a q r u e h = omega (arith, add-mul (2 * q) 1 u, mul_assoc 2 q u)
half_cmp Ordering.eq a q r u e h = omega (arith, add-mul (2 * q) 1 u, mul_assoc 2 q u)
half_cmp Ordering.gt a q r u e h = omega (arith, add-mul (2 * q) 1 u, mul_assoc 2 q u)

-- the whole number nearest to √(a * a) / 2 ^ k is the one nearest to a / 2 ^ k
nearest_of_square : (a k : ℕ) → nearest_root_of (a * a) k ≡ closest a (2 ^ k)
unfolding nearest_root_of
nearest_of_square a k =
    let u = 2 ^ k in
    let q = a / u in
    let h = (2 * q + 1) * u in
    let o = compare (a % u * 2) u in
    let c : Cmp o (4 * (a * a)) (h * h) = subst (λ (x : ℕ). Cmp o x (h * h)) (mul-mul-mul_comm 2 a 2 a) (sq_cmp o (2 * a) h (half_cmp o a q (a % u) u (div-add-mod' a u) (cmp (a % u * 2) u))) in
    ap (λ (w : ℕ). nearest (w / u) (compare (4 * (a * a)) ((2 * (w / u) + 1) * u * ((2 * (w / u) + 1) * u)))) (root_of_square a) ∙ ap (nearest q) (compare_is (4 * (a * a)) (h * h) o c)

-- ---- powers of two
-- the square of a * 2 ^ i
square_shift : (a i : ℕ) → a * a * 4 ^ i ≡ a * 2 ^ i * (a * 2 ^ i)
square_shift a i = ap (λ (x : ℕ). a * a * x) (four i) ∙ mul-mul-mul_comm a a (2 ^ i) (2 ^ i)

-- 2 ^ i times a has i digits more
size_shift : (a i : ℕ) → 0 < a → size (a * 2 ^ i) ≡ size a + i
size_shift a i h = size_between (a * 2 ^ i) a i h (le_refl (a * 2 ^ i)) (mul-lt-mul_of_pos_right (next a) (pow_pos i))
  where
    next : (x : ℕ) → x < x + 1
    next x = omega arith

-- a number of at least 2 ^ l has l digits fewer when divided by 2 ^ l
size_cut : (n l : ℕ) → 2 ^ l ≤ n → size (n / 2 ^ l) + l ≡ size n
size_cut n l h =
    let g : l < size n = size_gt n l h in
    let up : n < 2 ^ (size n - l + l) = subst (λ (x : ℕ). n < 2 ^ x) (back (size n) l g) (size-lt n) in
    let top : size (n / 2 ^ l) ≤ size n - l = size-le (n / 2 ^ l) (size n - l) (shr_lt (size n - l) l up) in
    let low : 2 ^ (size n - 1 - l) * 2 ^ l ≤ n = le_trans (le_of_eq (sym (pow-add 2 (size n - 1 - l) l))) (size_reaches n (size n - 1 - l + l) (omega arith)) in
    omega (arith, size_gt (n / 2 ^ l) (size n - 1 - l) ((le-div_iff_mul-le (pow_pos l)).1 low))
  where
    back : (z l : ℕ) → l < z → z ≡ z - l + l
    back z l h = omega arith

-- ---- the rounding of an exact number
-- size a of the digits of a * 2 ^ prec are dropped
rounding_of_exact : (f : Format) (a l : ℕ) → 0 < a → rounding f (exactly a l) ≡ odd (suc (prec f)) false (closest (a * 2 ^ prec f) (2 ^ size a)) (size a) (l + prec f)
unfolding rounding to_digits
rounding_of_exact f a l h =
    let p = prec f in
    let b = a * 2 ^ p in
    let r : size (whole_root_of (b * b)) - p ≡ size a = ap (λ (x : ℕ). size x - p) (root_of_square b) ∙ ap (λ (x : ℕ). x - p) (size_shift a p h) ∙ add-sub_cancel (size a) p in
    ap (λ (n : ℕ). odd (suc p) false (nearest_root_of n (size (whole_root_of n) - p)) (size (whole_root_of n) - p) (l + p)) (square_shift a p)
    ∙ ap (λ (k : ℕ). odd (suc p) false (nearest_root_of (b * b) k) k (l + p)) r
    ∙ ap (λ (q : ℕ). odd (suc p) false q (size a) (l + p)) (nearest_of_square b (size a))

-- ---- below the least normal number
-- the smallest value is prec - 1 places below the least normal number
low_is : (f : Format) → emax f - 1 + (prec f - 1) ≡ low f
low_is binary32 = refl
low_is binary64 = refl

-- a in smallest values, from a in least normal numbers
low_pow : (f : Format) (a : ℕ) → a * 2 ^ (emax f - 1) * 2 ^ (prec f - 1) ≡ a * 2 ^ low f
low_pow f a = mul_assoc a (2 ^ (emax f - 1)) (2 ^ (prec f - 1)) ∙ ap (λ (x : ℕ). a * x) (sym (pow-add 2 (emax f - 1) (prec f - 1)) ∙ ap (λ (x : ℕ). 2 ^ x) (low_is f))

-- 2 ^ (prec - 1) smallest values are in the format's range
units_in_range : (f : Format) → prec f - 1 < low f + suc (emax f)
units_in_range binary32 = lit< tt
units_in_range binary64 = lit< tt

-- no digit is dropped
none : (f : Format) (z : ℕ) → z ≤ prec f - 1 → z - prec f ≡ 0
none f z h = sub-eq-zero_of_le (le_trans h (sub-le (prec f) 1))

-- `round` gives the nearest whole number of smallest values
round_tiny : (f : Format) (a l : ℕ) → a * 2 ^ (emax f - 1) < 2 ^ l → round f false a (2 ^ l) ≡ odd (suc (prec f)) false (closest (a * 2 ^ low f) (2 ^ l)) 0 (low f)
unfolding units
round_tiny f a l h =
    let n = a * 2 ^ low f in
    let c = 2 ^ l in
    let q = closest n c in
    let big = 2 ^ (low f + suc (emax f)) in
    let n-lt : n < 2 ^ (prec f - 1) * c = lt_of_le_of_lt (le_of_eq (sym (low_pow f a))) (lt_of_lt_of_le (mul-lt-mul_of_pos_right h (pow_pos (prec f - 1))) (le_of_eq (mul_comm c (2 ^ (prec f - 1))))) in
    let w-lt : n / c < 2 ^ (prec f - 1) = (div-lt_iff_lt-mul (pow_pos l)).1 n-lt in
    let q-lt : q * 1 < big = lt_of_le_of_lt (le_of_eq (mul-one q)) (lt_of_le_of_lt (le_trans (nearest-le (n / c) (compare (n % c * 2) c)) w-lt) (pow-lt (units_in_range f))) in
    round_is f false a c
    ∙ ap (λ (k : ℕ). units f false (closest n (c * 2 ^ k)) k) (none f (size (n / c)) (size-le (n / c) (prec f - 1) w-lt))
    ∙ ap (λ (u : ℕ). units f false (closest n u) 0) (mul-one c)
    ∙ ap (λ (b : Bool). cond b (odd (suc (prec f)) false q 0 (low f)) (inf false)) (is_true (ltb (q * 1) big) (lt→ltb (q * 1) big q-lt))

-- ---- from the least normal number on
-- the kept number is the same
kept_same : (f : Format) (a l k : ℕ) → k + (l + prec f) ≡ size a + low f → closest (a * 2 ^ low f) (2 ^ l * 2 ^ k) ≡ closest (a * 2 ^ prec f) (2 ^ size a)
kept_same f a l k e =
    closest_same (a * 2 ^ low f) (2 ^ l * 2 ^ k) (a * 2 ^ prec f) (2 ^ size a) (mul-pos (pow_pos l) (pow_pos k)) (pow_pos (size a))
    (mul_assoc a (2 ^ low f) (2 ^ size a)
    ∙ ap (λ (x : ℕ). a * x) (sym (pow-add 2 (low f) (size a)) ∙ ap (λ (x : ℕ). 2 ^ x) (sums (low f) (size a) (prec f) l k e) ∙ pow-add 2 (prec f) (l + k) ∙ ap (λ (x : ℕ). 2 ^ prec f * x) (pow-add 2 l k))
    ∙ sym (mul_assoc a (2 ^ prec f) (2 ^ l * 2 ^ k)))
  where
    sums : (u z p l k : ℕ) → k + (l + p) ≡ z + u → u + z ≡ p + (l + k)
    sums u z p l k e = omega arith

-- a y from 2 ^ (emax + 1) on is infinity, on both sides
range_same : (f : Format) (q k z m : ℕ) → k + m ≡ z + low f
    → cond (lt (odd (suc (prec f)) false q z m) (fin false 1 (pos (suc (emax f))))) (odd (suc (prec f)) false q z m) (inf false) ≡ units f false q k
unfolding units
range_same f q k z m e =
    let d = suc (prec f) in
    let y = odd d false q k (low f) in
    ap (λ (x : Float). cond (lt x (fin false 1 (pos (suc (emax f))))) x (inf false)) (odd_same d false q z m k (low f) (sym e))
    ∙ ap (λ (b : Bool). cond b y (inf false)) (below_power y (q * 2 ^ k) (2 ^ low f) (suc (emax f)) (pow_pos (low f)) (odd_sign d false q k (low f)) ∙ ap (ltb (q * 2 ^ k)) (mul_comm (2 ^ suc (emax f)) (2 ^ low f) ∙ sym (pow-add 2 (low f) (suc (emax f)))))

-- `round` keeps the same number, with k for how many digits it drops
round_normal : (f : Format) (a l : ℕ) → 0 < a → 2 ^ l ≤ a * 2 ^ (emax f - 1)
    → (k : ℕ) × (k + (l + prec f) ≡ size a + low f) × (round f false a (2 ^ l) ≡ units f false (closest (a * 2 ^ prec f) (2 ^ size a)) k)
round_normal f a l p h =
    let n = a * 2 ^ low f in
    let c = 2 ^ l in
    let k = size (n / c) - prec f in
    let n-ge : 2 ^ (prec f - 1) * c ≤ n = le_trans (le_of_eq (mul_comm (2 ^ (prec f - 1)) c)) (le_trans (mul-le-mul_right (2 ^ (prec f - 1)) h) (le_of_eq (low_pow f a))) in
    let more : c ≤ n = le_trans (le_of_eq (sym (one-mul c))) (le_trans (mul-le-mul_right c (pow_pos (prec f - 1))) n-ge) in
    let e : k + (l + prec f) ≡ size a + low f = sums (size (n / c)) (prec f) l (normal_of_fraction f a c (pow_pos l) n-ge) ∙ size_cut n l more ∙ size_shift a (low f) p in
    (k, e, round_is f false a c ∙ ap (λ (q : ℕ). units f false q k) (kept_same f a l k e))
  where
    sums : (z p l : ℕ) → p ≤ z → z - p + (l + p) ≡ z + l
    sums z p l h = omega arith

-- ---- the two together
-- the test for the least normal number, without the squares
tiny_test : (a l i : ℕ) → ltb (a * a * 4 ^ i) (4 ^ l) ≡ ltb (a * 2 ^ i) (2 ^ l)
tiny_test a l i =
    ap (λ (x : ℕ). ltb x (4 ^ l)) (square_shift a i)
    ∙ ap (ltb (a * 2 ^ i * (a * 2 ^ i))) (four l)
    ∙ ltb_same (a * 2 ^ i * (a * 2 ^ i)) (2 ^ l * 2 ^ l) (a * 2 ^ i) (2 ^ l) (sq_lt_back (a * 2 ^ i) (2 ^ l)) (sq_lt (a * 2 ^ i) (2 ^ l))

number_pos : (a i l : ℕ) → 2 ^ l ≤ a * 2 ^ i → 0 < a
number_pos zero i l h = lt_of_lt_of_le (pow_pos l) (le_trans h (le_of_eq (zero-mul (2 ^ i))))
number_pos (suc a) i l h = omega arith

-- the last two steps of the root, on an exact number, are `round`
pub as_round : (f : Format) (a l : ℕ) → exponent_range_of f (exactly a l) (rounding f (exactly a l)) ≡ round f false a (2 ^ l)
unfolding exponent_range_of
as_round f a l =
    ap (λ (b : Bool). cond b tiny normal) (tiny_test a l (emax f - 1))
    ∙ go (ltb (a * 2 ^ (emax f - 1)) (2 ^ l)) (ltb→lt (a * 2 ^ (emax f - 1)) (2 ^ l)) (nltb→le (a * 2 ^ (emax f - 1)) (2 ^ l))
  where
    d : ℕ
    d = suc (prec f)

    tiny : Float
    tiny = odd d false (nearest_root_of (a * a * 4 ^ low f) l) 0 (low f)

    ranged : Float → Float
    ranged y = cond (lt y (fin false 1 (pos (suc (emax f))))) y (inf false)

    normal : Float
    normal = ranged (rounding f (exactly a l))

    go : (b : Bool) → (T b → a * 2 ^ (emax f - 1) < 2 ^ l) → (T (not b) → 2 ^ l ≤ a * 2 ^ (emax f - 1)) → cond b tiny normal ≡ round f false a (2 ^ l)
    go true h g =
        ap (λ (n : ℕ). odd d false (nearest_root_of n l) 0 (low f)) (square_shift a (low f))
        ∙ ap (λ (q : ℕ). odd d false q 0 (low f)) (nearest_of_square (a * 2 ^ low f) l)
        ∙ sym (round_tiny f a l (h tt))
    go false h g =
        let p = number_pos a (emax f - 1) l (g tt) in
        let r = round_normal f a l p (g tt) in
        ap ranged (rounding_of_exact f a l p) ∙ range_same f (closest (a * 2 ^ prec f) (2 ^ size a)) r.0 (size a) (l + prec f) r.1 ∙ sym r.2

-- ---- the exponent's range changes what the rounding gives
-- 2 ^ 127 times 2 ^ 127: the rounding keeps 2 ^ 254, the range makes it infinity, and so does the multiplication
large_product :
    (rounding binary32 (exactly (2 ^ 254) 0) ≡ fin false 1 (pos 254))
    × (exponent_range_of binary32 (exactly (2 ^ 254) 0) (fin false 1 (pos 254)) ≡ inf false)
    × (mul binary32 (fin false 1 (pos 127)) (fin false 1 (pos 127)) ≡ inf false)
unfolding rounding to_digits exponent_range_of nearest_root_of whole_root_of root_by size odd lt mul
large_product = (refl, refl, refl)

-- 2 ^ -100 times 2 ^ -100: the rounding keeps 2 ^ -200, the range makes it zero, and so does the multiplication
small_product :
    (rounding binary32 (exactly 1 200) ≡ fin false 1 (negsuc 199))
    × (exponent_range_of binary32 (exactly 1 200) (fin false 1 (negsuc 199)) ≡ fin false 0 (pos 0))
    × (mul binary32 (fin false 1 (negsuc 99)) (fin false 1 (negsuc 99)) ≡ fin false 0 (pos 0))
unfolding rounding to_digits exponent_range_of nearest_root_of whole_root_of root_by size odd mul
small_product = (refl, refl, refl)

-- just above half the smallest value: the rounding gives the half itself
half_rounded : rounding binary32 (exactly (2 ^ 30 + 1) 180) ≡ fin false 1 (negsuc 149)
unfolding rounding to_digits nearest_root_of whole_root_of root_by size odd
half_rounded = refl

-- the half, rounded again, would be zero
half_again : round binary32 false 1 (2 ^ 150) ≡ fin false 0 (pos 0)
unfolding round
half_again = refl

-- the range gives the smallest value, since it rounds the number itself
half_ranged : exponent_range_of binary32 (exactly (2 ^ 30 + 1) 180) (fin false 1 (negsuc 149)) ≡ fin false 1 (negsuc 148)
unfolding exponent_range_of nearest_root_of whole_root_of root_by size odd
half_ranged = refl
