-- The root of n, rounded to a whole number and times 2 ^ j, is nearer to √(n * 4 ^ j) than any other finite f32 from zero up, and such an f32 is known by its value.
use mathlib.Core.Path.{◌≡◌, sym, ap, ◌∙◌, subst}
use mathlib.Core.Bool.{true, false, ◌&&◌, true≢false}
use Prim.Native.Nat.{ℕ, zero, suc, ◌+◌, ◌-◌, ◌*◌, ◌/◌, ◌%◌, ◌^◌, ◌≤◌, ◌<◌}
use native.Mathlib.Nat.{le_trans, le_of_eq, le_of_lt, lt_of_le_of_lt, lt_of_lt_of_le, lt_of_not-le, not-le_of_lt, le_of_suc-le-suc, lt_irrefl, le-add_right, sub-add_cancel, zero-mul, mul-one, add-mul, mul_assoc, mul-mul-mul_comm, mul-pos, mul-le-mul, mul-le-mul_left, mul-le-mul_right, mul-lt-mul_of_pos_right, lt_of_mul-lt-mul_right, eq_of_mul-eq-mul_right, mul-div_cancel}
use native.Mathlib.Decide.{dec_le}
use native.Mathlib.Omega.{arith}
use lib.IntN.{ℤ, pos, negsuc}
use lib.Dec.{T, leb, ltb, eqb, leb→le, ltb→lt}
use lib.Pow.{pow-add, pow_pos, pow_mono, pow-lt, shl_lt}
use lib.Ieee.{Float, nan, inf, fin, binary32, up, down, fits, of_bits}
use lib.Ieee.Bits.{of_bits-to_bits}
use lib.Ieee.Exact.{HasValue}
use lib.Ieee.Fits.{and_l, and_r, down_pos}
use Rattle.relay_math.specs.Root.{whole_root_of, nearest_root_of}
use Rattle.relay_math.proofs.Rounding.{root_24, nearest_down, nearest_up, bits_of}
use Rattle.relay_math.proofs.Squares.{next, sq_lt, odd_sq}
use Rattle.relay_math.proofs.WholeRoot.{IsRoot, whole_root_is}

-- b is a, or nearer to √n than a is: the point midway lies on a's side of √n, and not on √n
abbrev pub Nearer : ℕ → ℕ → ℕ → Type 0
Nearer n b a = (a < b → (a + b) * (a + b) < 4 * n) × (b < a → 4 * n < (a + b) * (a + b))

-- two numbers, one below the other, are not each nearer than the other
not_both : (n a b : ℕ) → a < b → Nearer n b a → Nearer n a b → ⊥
not_both n a b h x y =
    let c : a + b ≡ b + a = omega arith in
    let u : (a + b) * (a + b) < 4 * n = x.0 h in
    let v : 4 * n < (a + b) * (a + b) = rw c (y.1 h) in
    omega arith

-- two numbers, each the other or nearer than it, are one
pub nearer_one : (n a b : ℕ) → Nearer n b a → Nearer n a b → a ≡ b
nearer_one n a b x y = go (dec_le a b) (dec_le b a)
  where
    go : Dec (a ≤ b) → Dec (b ≤ a) → a ≡ b
    go (yes h) (yes k) = omega arith
    go (yes h) (no f) = absurd (not_both n a b (lt_of_not-le f) x y)
    go (no f) k = absurd (not_both n b a (lt_of_not-le f) y x)

-- ---- an f32 as a whole number of units
pow_le_back : (i j : ℕ) → 2 ^ i ≤ 2 ^ j → i ≤ j
pow_le_back i j h = le_of_suc-le-suc (lt_of_not-le (λ (g : suc j ≤ i). not-le_of_lt (pow-lt g) h))

-- a zero has no value above zero
no_value : (a : ℕ) (e : ℤ) → 0 * up e * 2 ^ 149 ≡ a * down e → 0 < a → ⊥
no_value a e h p = lt_irrefl 0 (lt_of_lt_of_le (mul-pos p (down_pos e)) (le_of_eq (sym h ∙ ap (λ (x : ℕ). x * 2 ^ 149) (zero-mul (up e)))))

-- m * 2 ^ i with an m of at most 24 digits is 2 ^ (23 + j) or more only where i is at least j
long : (m i j : ℕ) → m < 2 ^ 24 → 2 ^ (23 + j) ≤ m * 2 ^ i → j ≤ i
long m i j h k = close (lt_of_not-le (λ (g : 24 + i ≤ 23 + j). not-le_of_lt (shl_lt 24 i h) (le_trans (pow_mono g) k)))
  where
    close : 23 + j < 24 + i → j ≤ i
    close g = omega arith

whole_units : (m i j : ℕ) → j ≤ i → m * 2 ^ i / 2 ^ j * 2 ^ j ≡ m * 2 ^ i
whole_units m i j h =
    let e : m * 2 ^ i ≡ m * 2 ^ (i - j) * 2 ^ j = ap (λ (x : ℕ). m * x) (ap (λ (x : ℕ). 2 ^ x) (sym (sub-add_cancel h)) ∙ pow-add 2 (i - j) j) ∙ sym (mul_assoc m (2 ^ (i - j)) (2 ^ j)) in
    ap (λ (x : ℕ). x / 2 ^ j * 2 ^ j) e ∙ ap (λ (x : ℕ). x * 2 ^ j) (mul-div_cancel (m * 2 ^ (i - j)) (pow_pos j)) ∙ sym e

-- m * 2 ^ e in smallest values, with an e that reaches no lower than they do
shape : (m : ℕ) (e : ℤ) (a : ℕ) → down e ≤ 2 ^ 149 → m * up e * 2 ^ 149 ≡ a * down e → (i : ℕ) × (m * 2 ^ i ≡ a)
shape m (pos k) a h v = (k + 149, ap (λ (x : ℕ). m * x) (pow-add 2 k 149) ∙ sym (mul_assoc m (2 ^ k) (2 ^ 149)) ∙ v ∙ mul-one a)
shape m (negsuc k) a h v = (149 - suc k, eq_of_mul-eq-mul_right (2 ^ suc k) (pow_pos (suc k)) (m * 2 ^ (149 - suc k)) a (lifted ∙ v))
  where
    high : suc k ≤ 149
    high = pow_le_back (suc k) 149 h

    lifted : m * 2 ^ (149 - suc k) * 2 ^ suc k ≡ m * 1 * 2 ^ 149
    lifted = mul_assoc m (2 ^ (149 - suc k)) (2 ^ suc k) ∙ ap (λ (x : ℕ). m * x) (sym (pow-add 2 (149 - suc k) (suc k)) ∙ ap (λ (x : ℕ). 2 ^ x) (sub-add_cancel high)) ∙ ap (λ (x : ℕ). x * 2 ^ 149) (sym (mul-one m))

-- what `fits` says of the digits and of the exponent
fits_digits : (m : ℕ) (e : ℤ) → T (fits binary32 (fin false (suc m) e)) → (suc m < 2 ^ 24) × (down e ≤ 2 ^ 149)
unfolding fits
fits_digits m e t =
    let a = eqb (suc m % 2) 1 in
    let b = ltb (suc m) (2 ^ 24) in
    let c = leb (down e) (2 ^ 149) in
    let u : T (a && b && c) = and_l (a && b && c) (ltb (suc m * up e) (2 ^ 128 * down e)) t in
    (ltb→lt (suc m) (2 ^ 24) (and_r a b (and_l (a && b) c u)), leb→le (down e) (2 ^ 149) (and_r (a && b) c u))

-- an f32 from zero up of at least 2 ^ 23 units of 2 ^ j is a whole number of them
pub grid : (z : Float) (a j : ℕ) → T (fits binary32 z) → HasValue z false a (2 ^ 149) → 2 ^ (23 + j) ≤ a → a / 2 ^ j * 2 ^ j ≡ a
grid nan a j t v h = absurd v
grid (inf s) a j t v h = absurd v
grid (fin true m e) a j t v h = absurd (true≢false v.0)
grid (fin false zero e) a j t v h = absurd (no_value a e v.1 (lt_of_lt_of_le (pow_pos (23 + j)) h))
grid (fin false (suc m) e) a j t v h =
    let d = fits_digits m e t in
    let k = shape (suc m) e a d.1 v.1 in
    subst (λ (x : ℕ). x / 2 ^ j * 2 ^ j ≡ x) k.1 (whole_units (suc m) k.0 j (long (suc m) k.0 j d.0 (le_trans h (le_of_eq (sym k.1)))))

-- ---- nearer than any other multiple of p
-- squares against 4 * n, times p * p
under_square : (n p x y : ℕ) → 0 < p → x ≤ y * p → y * y < 4 * n → x * x < 4 * (n * (p * p))
under_square n p x y pp h k =
    lt_of_le_of_lt (mul-le-mul h h) (lt_of_le_of_lt (le_of_eq (mul-mul-mul_comm y p y p)) (lt_of_lt_of_le (mul-lt-mul_of_pos_right k (mul-pos pp pp)) (le_of_eq (mul_assoc 4 n (p * p)))))

over_square : (n p x y : ℕ) → 0 < p → y * p ≤ x → 4 * n < y * y → 4 * (n * (p * p)) < x * x
over_square n p x y pp h k =
    lt_of_le_of_lt (le_of_eq (sym (mul_assoc 4 n (p * p)))) (lt_of_lt_of_le (mul-lt-mul_of_pos_right k (mul-pos pp pp)) (le_trans (le_of_eq (mul-mul-mul_comm y y p p)) (mul-le-mul h h)))

-- the multiples of p next to r * p
next_up : (a r p : ℕ) → a / p * p ≡ a → r * p < a → (r + 1) * p ≤ a
next_up a r p e h = le_trans (mul-le-mul_right p (next r (a / p) (lt_of_mul-lt-mul_right p (lt_of_lt_of_le h (le_of_eq (sym e)))))) (le_of_eq e)

next_down : (a q p : ℕ) → a / p * p ≡ a → a < (q + 1) * p → a ≤ q * p
next_down a q p e h = le_trans (le_of_eq (sym e)) (mul-le-mul_right p (last (a / p) (lt_of_mul-lt-mul_right p (lt_of_le_of_lt (le_of_eq e) h))))
  where
    last : (x : ℕ) → x < q + 1 → x ≤ q
    last x k = omega arith

-- a is a multiple of p from 2 ^ 23 * p on
module _ (n p a : ℕ) (pp : 0 < p) (g : 2 ^ 23 * p ≤ a → a / p * p ≡ a) where
  over : (r : ℕ) → 2 ^ 23 ≤ r → 4 * n < (2 * r + 1) * (2 * r + 1) → r * p < a → 4 * (n * (p * p)) < (a + r * p) * (a + r * p)
  over r l k h =
      let u : (r + 1) * p ≤ a = next_up a r p (g (le_trans (mul-le-mul_right p l) (le_of_lt h))) h in
      over_square n p (a + r * p) (2 * r + 1) pp (omega (arith, add-mul r 1 p, add-mul (2 * r) 1 p, mul_assoc 2 r p)) k

  -- from below, where the root is rounded down
  under_low : (q : ℕ) → q * q ≤ n → a < q * p → (a + q * p) * (a + q * p) < 4 * (n * (p * p))
  under_low q l h =
      let b = q * p in
      let s : b * b ≤ n * (p * p) = le_trans (le_of_eq (mul-mul-mul_comm q p q p)) (mul-le-mul_right (p * p) l) in
      lt_of_lt_of_le (sq_lt (a + b) (2 * b) (omega arith)) (le_trans (le_of_eq (mul-mul-mul_comm 2 b 2 b)) (mul-le-mul_left 4 s))

  beneath : (q : ℕ) → 2 ^ 23 ≤ q → a < (q + 1) * p → a ≤ q * p
  beneath q l h = go (dec_le (2 ^ 23 * p) a)
    where
      go : Dec (2 ^ 23 * p ≤ a) → a ≤ q * p
      go (yes k) = next_down a q p (g k) h
      go (no f) = le_trans (le_of_lt (lt_of_not-le f)) (mul-le-mul_right p l)

  -- and where it is rounded up
  under_high : (q : ℕ) → 2 ^ 23 ≤ q → (2 * q + 1) * (2 * q + 1) < 4 * n → a < (q + 1) * p → (a + (q + 1) * p) * (a + (q + 1) * p) < 4 * (n * (p * p))
  under_high q l k h =
      let u : a ≤ q * p = beneath q l h in
      under_square n p (a + (q + 1) * p) (2 * q + 1) pp (omega (arith, add-mul q 1 p, add-mul (2 * q) 1 p, mul_assoc 2 q p)) k

  nearer_down : (q : ℕ) → 2 ^ 23 ≤ q → IsRoot n q → n ≤ q * q + q → Nearer (n * (p * p)) (q * p) a
  nearer_down q l r h = (under_low q r.0, over q l (omega (arith, odd_sq q)))

  nearer_up : (q : ℕ) → 2 ^ 23 ≤ q → IsRoot n q → q * q + q < n → Nearer (n * (p * p)) ((q + 1) * p) a
  nearer_up q l r h = (under_high q l (omega (arith, odd_sq q)), over (q + 1) (le_trans l (le-add_right q 1)) (omega (arith, odd_sq (q + 1), r.1)))

-- the root of n rounded to a whole number, times 2 ^ j, is nearer to √(n * 4 ^ j) than any other finite f32 from zero up; no tie arises
pub nearer_than : (n j a : ℕ) (z : Float) → 2 ^ 46 ≤ n → n ≤ 2 ^ 48 - 2 ^ 24 → T (fits binary32 z) → HasValue z false a (2 ^ 149)
    → Nearer (n * (2 ^ j * 2 ^ j)) (nearest_root_of n 0 * 2 ^ j) a
nearer_than n j a z c d t v = go (dec_le n (q * q + q))
  where
    q : ℕ
    q = whole_root_of n

    l : 2 ^ 23 ≤ q
    l = (root_24 n q c d (whole_root_is n)).0

    g : 2 ^ 23 * 2 ^ j ≤ a → a / 2 ^ j * 2 ^ j ≡ a
    g h = grid z a j t v (le_trans (le_of_eq (pow-add 2 23 j)) h)

    go : Dec (n ≤ q * q + q) → Nearer (n * (2 ^ j * 2 ^ j)) (nearest_root_of n 0 * 2 ^ j) a
    go (yes h) = subst (λ (r : ℕ). Nearer (n * (2 ^ j * 2 ^ j)) (r * 2 ^ j) a) (sym (nearest_down n q (whole_root_is n) h)) (nearer_down n (2 ^ j) a (pow_pos j) g q l (whole_root_is n) h)
    go (no f) =
        let h = lt_of_not-le f in
        subst (λ (r : ℕ). Nearer (n * (2 ^ j * 2 ^ j)) (r * 2 ^ j) a) (sym (nearest_up n q d (whole_root_is n) h).0) (nearer_up n (2 ^ j) a (pow_pos j) g q l (whole_root_is n) h)

-- ---- one value, one f32
-- two finite f32 from zero up of one value are one
pub same_value : (x y : Float) (a : ℕ) → T (fits binary32 x) → T (fits binary32 y) → HasValue x false a (2 ^ 149) → HasValue y false a (2 ^ 149) → x ≡ y
same_value x y a s t v w = sym (of_bits-to_bits binary32 x s) ∙ ap (of_bits binary32) (bits_of x a v ∙ sym (bits_of y a w)) ∙ of_bits-to_bits binary32 y t
