-- A number has more than one way to be written as an exact one; the last two steps of the root do not see which.
use mathlib.Core.Path.{◌≡◌, refl, sym, ap, ◌∙◌, subst}
use mathlib.Core.Bool.{Bool, true, false, not, cond}
use Prim.Native.Nat.{ℕ, zero, suc, ◌+◌, ◌-◌, ◌*◌, ◌/◌, ◌^◌, ◌≤◌, ◌<◌, compare, Ordering}
use native.Mathlib.Nat.{le_trans, le_of_eq, lt_of_le_of_lt, lt_of_lt_of_le, lt_of_not-le, lt-suc_self, not-le_of_lt, le_antisymm, pow-suc, add_comm, mul_assoc, mul-mul-mul_comm, mul_right_comm, mul-pos, mul-le-mul_right, mul-lt-mul_of_pos_right, lt_of_mul-lt-mul_right, div-eq_of_lt-le}
use native.Mathlib.Omega.{arith}
use lib.IntN.{ℤ, pos, negsuc}
use lib.Dec.{T, leb, ltb, leb→le, nleb→lt, ltb→lt, lt→ltb}
use lib.Count.{count_trailing_zeros}
use lib.Pow.{pow-add, pow_pos, pow_mono, shr-shr}
use lib.Ieee.{Float, nan, inf, fin, Format, prec, emax, low, up, down, size, nearest, odd, minus, lt}
use lib.Ieee.Exact.{HasValue}
use lib.Ieee.Positive.{first_pos}
use lib.Ieee.Digits.{size-lt, size-le, size_reaches}
use Rattle.relay_math.specs.Root.{Exact, behind, overflow_exponent, whole_root_of, nearest_root_of, unlimited_precision_of, to_digits, rounding, exponent_range_of}
use Rattle.relay_math.specs.RootCode.{SameRoot}
use Rattle.relay_math.proofs.Nearest.{Cmp, cmp}
use Rattle.relay_math.proofs.Squares.{next, sq_lt_back}
use Rattle.relay_math.proofs.WholeRoot.{IsRoot, whole_root_is}

-- ---- powers of four
pub four : (i : ℕ) → 4 ^ i ≡ 2 ^ i * 2 ^ i
four zero = refl
four (suc i) = pow-suc 4 i ∙ ap (λ (x : ℕ). x * 4) (four i) ∙ mul-mul-mul_comm (2 ^ i) (2 ^ i) 2 2 ∙ ap (λ (x : ℕ). x * x) (sym (pow-suc 2 i))

pub four_pos : (i : ℕ) → 0 < 4 ^ i
four_pos i = subst (λ (x : ℕ). 0 < x) (sym (four i)) (mul-pos (pow_pos i) (pow_pos i))

-- ---- a comparison of multiples
one_ordering : (a b : ℕ) (o p : Ordering) → Cmp o a b → Cmp p a b → o ≡ p
one_ordering a b Ordering.lt Ordering.lt h k = refl
one_ordering a b Ordering.lt Ordering.eq h k = absurd (omega arith)
one_ordering a b Ordering.lt Ordering.gt h k = absurd (omega arith)
one_ordering a b Ordering.eq Ordering.lt h k = absurd (omega arith)
one_ordering a b Ordering.eq Ordering.eq h k = refl
one_ordering a b Ordering.eq Ordering.gt h k = absurd (omega arith)
one_ordering a b Ordering.gt Ordering.lt h k = absurd (omega arith)
one_ordering a b Ordering.gt Ordering.eq h k = absurd (omega arith)
one_ordering a b Ordering.gt Ordering.gt h k = refl

pub compare_is : (a b : ℕ) (o : Ordering) → Cmp o a b → compare a b ≡ o
compare_is a b o h = one_ordering a b (compare a b) o (cmp a b) h

multiples : (a b c : ℕ) (o : Ordering) → 0 < c → Cmp o a b → Cmp o (a * c) (b * c)
multiples a b c Ordering.lt p h = mul-lt-mul_of_pos_right h p
multiples a b c Ordering.eq p h = ap (λ (x : ℕ). x * c) h
multiples a b c Ordering.gt p h = mul-lt-mul_of_pos_right h p

compare_multiples : (a b c : ℕ) → 0 < c → compare (a * c) (b * c) ≡ compare a b
compare_multiples a b c p = compare_is (a * c) (b * c) (compare a b) (multiples a b c (compare a b) p (cmp a b))

-- ---- the whole root of n * (p * p), with p dropped, is that of n
module _ (n q p : ℕ) (r : IsRoot n q) (pp : 0 < p) where
  lower : q * p ≤ whole_root_of (n * (p * p))
  lower =
      let w = whole_root_of (n * (p * p)) in
      let s : q * p * (q * p) ≤ n * (p * p) = le_trans (le_of_eq (mul-mul-mul_comm q p q p)) (mul-le-mul_right (p * p) r.0) in
      let h : q * p < w + 1 = sq_lt_back (q * p) (w + 1) (lt_of_le_of_lt s (whole_root_is (n * (p * p))).1) in
      omega arith

  upper : whole_root_of (n * (p * p)) < (q + 1) * p
  upper =
      let w = whole_root_of (n * (p * p)) in
      let s : n * (p * p) < (q + 1) * p * ((q + 1) * p) = lt_of_lt_of_le (mul-lt-mul_of_pos_right r.1 (mul-pos pp pp)) (le_of_eq (mul-mul-mul_comm (q + 1) (q + 1) p p)) in
      sq_lt_back w ((q + 1) * p) (lt_of_le_of_lt (whole_root_is (n * (p * p))).0 s)

  root_div : whole_root_of (n * (p * p)) / p ≡ q
  root_div = div-eq_of_lt-le p lower upper

-- so the nearest whole number to √n / 2 ^ k is that to √(n * 4 ^ i) / 2 ^ (k + i)
pub nearest_scale : (n k i : ℕ) → nearest_root_of (n * 4 ^ i) (k + i) ≡ nearest_root_of n k
unfolding nearest_root_of
nearest_scale n k i =
    let p = 2 ^ i in
    let q = whole_root_of n / 2 ^ k in
    let h = (2 * q + 1) * 2 ^ k in
    let digits : whole_root_of (n * 4 ^ i) / 2 ^ (k + i) ≡ q =
    ap (λ (x : ℕ). whole_root_of (n * 4 ^ i) / 2 ^ x) (add_comm k i)
    ∙ sym (shr-shr (whole_root_of (n * 4 ^ i)) i k)
    ∙ ap (λ (x : ℕ). whole_root_of (n * x) / p / 2 ^ k) (four i)
    ∙ ap (λ (x : ℕ). x / 2 ^ k) (root_div n (whole_root_of n) p (whole_root_is n) (pow_pos i)) in
    let wide : (2 * q + 1) * 2 ^ (k + i) ≡ h * p = ap (λ (x : ℕ). (2 * q + 1) * x) (pow-add 2 k i) ∙ sym (mul_assoc (2 * q + 1) (2 ^ k) p) in
    let square : (2 * q + 1) * 2 ^ (k + i) * ((2 * q + 1) * 2 ^ (k + i)) ≡ h * h * 4 ^ i = ap (λ (x : ℕ). x * x) wide ∙ mul-mul-mul_comm h p h p ∙ ap (λ (x : ℕ). h * h * x) (sym (four i)) in
    ap (λ (x : ℕ). nearest x (compare (4 * (n * 4 ^ i)) ((2 * x + 1) * 2 ^ (k + i) * ((2 * x + 1) * 2 ^ (k + i))))) digits
    ∙ ap (λ (x : ℕ). nearest q (compare (4 * (n * 4 ^ i)) x)) square
    ∙ ap (λ (x : ℕ). nearest q (compare x (h * h * 4 ^ i))) (sym (mul_assoc 4 n (4 ^ i)))
    ∙ ap (nearest q) (compare_multiples (4 * n) (h * h) (4 ^ i) (four_pos i))

-- ---- digits
-- a number from 2 ^ k on has more than k digits
pub size_gt : (a k : ℕ) → 2 ^ k ≤ a → k < size a
size_gt a k l = lt_of_not-le (λ (h : size a ≤ k). not-le_of_lt (size-lt a) (le_trans (pow_mono h) l))

-- the number of digits, from the powers of two about a number
pub size_exact : (a k : ℕ) → 2 ^ k ≤ a → a < 2 ^ suc k → size a ≡ suc k
size_exact a k l u = le_antisymm (size-le a (suc k) u) (size_gt a k l)

-- a number between multiples of 2 ^ i has i digits more
pub size_between : (a w i : ℕ) → 0 < w → w * 2 ^ i ≤ a → a < (w + 1) * 2 ^ i → size a ≡ size w + i
size_between a w i p l u = go (size w) (size-lt w) (size_reaches w)
  where
    more : (s : ℕ) → suc s + i ≡ suc (s + i)
    more s = omega arith

    go : (s : ℕ) → w < 2 ^ s → ((j : ℕ) → j < s → 2 ^ j ≤ w) → size a ≡ s + i
    go zero h r = absurd (omega arith)
    go (suc s) h r =
        let low : 2 ^ (s + i) ≤ a = le_trans (le_of_eq (pow-add 2 s i)) (le_trans (mul-le-mul_right (2 ^ i) (r s (lt-suc_self s))) l) in
        let high : a < 2 ^ suc (s + i) = lt_of_lt_of_le u (le_trans (mul-le-mul_right (2 ^ i) (next w (2 ^ suc s) h)) (le_of_eq (sym (pow-add 2 (suc s) i) ∙ ap (λ (x : ℕ). 2 ^ x) (more s)))) in
        size_exact a (s + i) low high ∙ sym (more s)

root_pos : (n : ℕ) → 0 < n → 0 < whole_root_of n
root_pos n p = go (whole_root_of n) (whole_root_is n).1
  where
    go : (w : ℕ) → n < (w + 1) * (w + 1) → 0 < w
    go zero h = omega arith
    go (suc w) h = omega arith

pub size_root : (n i : ℕ) → 0 < n → size (whole_root_of (n * 4 ^ i)) ≡ size (whole_root_of n) + i
size_root n i p =
    let w = whole_root_of n in
    let r = whole_root_is n in
    ap (λ (x : ℕ). size (whole_root_of (n * x))) (four i)
    ∙ size_between (whole_root_of (n * (2 ^ i * 2 ^ i))) w i (root_pos n p) (lower n w (2 ^ i) r (pow_pos i)) (upper n w (2 ^ i) r (pow_pos i))

-- with d places more the root of a number above zero has more than d digits before the point
pub digits_kept : (n d : ℕ) → 0 < n → d < size (whole_root_of (n * 4 ^ d))
digits_kept n d p = subst (λ (x : ℕ). d < x) (sym (size_root n d p)) (go (size (whole_root_of n)) (size-lt (whole_root_of n)))
  where
    go : (s : ℕ) → whole_root_of n < 2 ^ s → d < s + d
    go zero h = absurd (let k = root_pos n p in omega arith)
    go (suc s) h = omega arith

-- ---- floats
minus_same : (a b c d : ℕ) → a + d ≡ c + b → minus a b ≡ minus c d
minus_same a b c d e = go (leb b a) (leb d c) (leb→le b a) (nleb→lt b a) (leb→le d c) (nleb→lt d c)
  where
    go : (x y : Bool) → (T x → b ≤ a) → (T (not x) → a < b) → (T y → d ≤ c) → (T (not y) → c < d)
        → cond x (pos (a - b)) (negsuc (b - suc a)) ≡ cond y (pos (c - d)) (negsuc (d - suc c))
    go true true h k g l = ap pos (let u = h tt in let v = g tt in omega arith)
    go true false h k g l = absurd (let u = h tt in let v = l tt in omega arith)
    go false true h k g l = absurd (let u = k tt in let v = g tt in omega arith)
    go false false h k g l = ap negsuc (let u = k tt in let v = l tt in omega arith)

-- only the difference of the exponents counts
pub odd_same : (d : ℕ) (s : Bool) (q k l k' l' : ℕ) → k + l' ≡ k' + l → odd d s q k l ≡ odd d s q k' l'
unfolding odd
odd_same d s zero k l k' l' e = refl
odd_same d s (suc q) k l k' l' e = let t = count_trailing_zeros d (suc q) in ap (fin s (suc q / 2 ^ t)) (minus_same (k + t) l (k' + t) l' (omega arith))

-- two tests that follow from each other
pub ltb_same : (a b c d : ℕ) → (a < b → c < d) → (c < d → a < b) → ltb a b ≡ ltb c d
ltb_same a b c d f g = go (ltb a b) (ltb c d) (ltb→lt a b) (lt→ltb a b) (ltb→lt c d) (lt→ltb c d)
  where
    go : (x y : Bool) → (T x → a < b) → (a < b → T x) → (T y → c < d) → (c < d → T y) → x ≡ y
    go true true p q r s = refl
    go true false p q r s = absurd (s (f (p tt)))
    go false true p q r s = absurd (q (g (r tt)))
    go false false p q r s = refl

pub below_multiples : (a b c : ℕ) → 0 < c → ltb (a * c) (b * c) ≡ ltb a b
below_multiples a b c p = ltb_same (a * c) (b * c) a b (lt_of_mul-lt-mul_right c) (λ (h : a < b). mul-lt-mul_of_pos_right h p)

-- ---- the last two steps
-- √n / 2 ^ l, written with i places more
abbrev scaled : Exact → ℕ → Exact
scaled x i = record { radicand = x.radicand * 4 ^ i; places = x.places + i }

digits_scale : (d : ℕ) (x : Exact) (i : ℕ) → 0 < x.radicand → to_digits d (scaled x i) ≡ to_digits d x
unfolding to_digits
digits_scale d x i p =
    let n = x.radicand * 4 ^ d in
    let k = size (whole_root_of n) - d in
    let more : x.radicand * 4 ^ i * 4 ^ d ≡ n * 4 ^ i = mul_right_comm x.radicand (4 ^ i) (4 ^ d) in
    let digits : size (whole_root_of (n * 4 ^ i)) - d ≡ k + i = ap (λ (y : ℕ). y - d) (size_root n i (mul-pos p (four_pos d))) ∙ moved (size (whole_root_of n)) d (digits_kept x.radicand d p) in
    ap (λ (m : ℕ). odd (suc d) false (nearest_root_of m (size (whole_root_of m) - d)) (size (whole_root_of m) - d) (x.places + i + d)) more
    ∙ ap (λ (j : ℕ). odd (suc d) false (nearest_root_of (n * 4 ^ i) j) j (x.places + i + d)) digits
    ∙ ap (λ (q : ℕ). odd (suc d) false q (k + i) (x.places + i + d)) (nearest_scale n k i)
    ∙ odd_same (suc d) false (nearest_root_of n k) (k + i) (x.places + i + d) k (x.places + d) (omega arith)
  where
    moved : (s d : ℕ) → d < s → s + i - d ≡ s - d + i
    moved s d h = omega arith

range_scale : (f : Format) (x : Exact) (i : ℕ) (y : Float) → exponent_range_of f (scaled x i) y ≡ exponent_range_of f x y
unfolding exponent_range_of
range_scale f x i y =
    let n = x.radicand in
    let l = x.places in
    let rest = cond (lt y (fin false 1 (pos (overflow_exponent f)))) y (inf false) in
    let tiny : ltb (n * 4 ^ i * 4 ^ (emax f - 1)) (4 ^ (l + i)) ≡ ltb (n * 4 ^ (emax f - 1)) (4 ^ l) =
    ap (λ (a : ℕ). ltb a (4 ^ (l + i))) (mul_right_comm n (4 ^ i) (4 ^ (emax f - 1)))
    ∙ ap (ltb (n * 4 ^ (emax f - 1) * 4 ^ i)) (pow-add 4 l i)
    ∙ below_multiples (n * 4 ^ (emax f - 1)) (4 ^ l) (4 ^ i) (four_pos i) in
    let small : nearest_root_of (n * 4 ^ i * 4 ^ low f) (l + i) ≡ nearest_root_of (n * 4 ^ low f) l = ap (λ (a : ℕ). nearest_root_of a (l + i)) (mul_right_comm n (4 ^ i) (4 ^ low f)) ∙ nearest_scale (n * 4 ^ low f) l i in
    ap (λ (b : Bool). cond b (odd (suc (prec f)) false (nearest_root_of (n * 4 ^ i * 4 ^ low f) (l + i)) 0 (low f)) rest) tiny
    ∙ ap (λ (q : ℕ). cond (ltb (n * 4 ^ (emax f - 1)) (4 ^ l)) (odd (suc (prec f)) false q 0 (low f)) rest) small

module _ (f : Format) (x y : Exact) (same : SameRoot x y) where
  one : scaled x y.places ≡ scaled y x.places
  one = ap (λ (n : ℕ). record { radicand = n; places = x.places + y.places }) same ∙ ap (λ (l : ℕ). record { radicand = y.radicand * 4 ^ x.places; places = l }) (add_comm x.places y.places)

  -- the rounding is that of the number
  pub same_rounding : 0 < y.radicand → rounding f x ≡ rounding f y
  unfolding rounding
  same_rounding p =
      let q : 0 < x.radicand = first_pos x.radicand (4 ^ y.places) (subst (λ (n : ℕ). 0 < n) (sym same) (mul-pos p (four_pos x.places))) in
      sym (digits_scale _ x y.places q) ∙ ap (to_digits _) one ∙ digits_scale _ y x.places p

  -- and so is the exponent's range
  pub same_range : (z : Float) → exponent_range_of f x z ≡ exponent_range_of f y z
  same_range z = sym (range_scale f x y.places z) ∙ ap (λ (e : Exact). exponent_range_of f e z) one ∙ range_scale f y x.places z

-- ---- the exact root of an operand
down_square : (e : ℤ) → down e * down e ≡ 4 ^ behind e
down_square (pos k) = refl
down_square (negsuc k) = sym (four (suc k))

-- its square is the operand: radicand / 4 ^ places
pub exact_value : (s : Bool) (m : ℕ) (e : ℤ) → HasValue (fin s m e) s (unlimited_precision_of (fin s m e)).radicand (4 ^ (unlimited_precision_of (fin s m e)).places)
unfolding unlimited_precision_of
exact_value s m e = (refl, ap (λ (x : ℕ). m * up e * x) (sym (down_square e)) ∙ sym (mul_assoc (m * up e) (down e) (down e)))

-- and any way to write the operand is one to write its root
pub exact_same : (x : Float) (s : Bool) (n l : ℕ) → HasValue x s n (4 ^ l) → SameRoot (unlimited_precision_of x) (record { radicand = n; places = l })
unfolding unlimited_precision_of
exact_same nan s n l h = absurd h
exact_same (inf t) s n l h = absurd h
exact_same (fin t m e) s n l h = mul_right_comm (m * up e) (down e) (4 ^ l) ∙ ap (λ (x : ℕ). x * down e) h.1 ∙ mul_assoc n (down e) (down e) ∙ ap (λ (x : ℕ). n * x) (down_square e)
