-- What the last two steps give for the exact roots that the code has, with 24 digits before the point, and the patterns of that.
use mathlib.Core.Path.{◌≡◌, refl, sym, ap, ◌∙◌, subst}
use mathlib.Core.Bool.{Bool, true, false, cond}
use Prim.Native.Nat.{ℕ, suc, ◌+◌, ◌-◌, ◌*◌, ◌/◌, ◌^◌, ◌≤◌, ◌<◌, compare, Ordering}
use native.Mathlib.Nat.{le_trans, le_of_eq, le_of_lt, lt_of_le_of_lt, lt_of_lt_of_le, lt_of_not-le, not-le_of_lt, le-add_right, zero-add, add-sub_cancel_left, mul-one, one-mul, mul_assoc, mul_right_comm, mul-le-mul, mul-le-mul_left, mul-le-mul_right, mul-lt-mul_of_pos_right, mul-div_cancel, div-one, div-lt_iff_lt-mul, pow-le-pow_right}
use native.Mathlib.Numerals.{add-one}
use native.Mathlib.Decide.{dec_le}
use native.Mathlib.Omega.{arith}
use lib.IntN.{pos}
use lib.Dec.{T, ltb, ltb→lt, lt→ltb, lit<, lit≤, not_T}
use lib.Pow.{pow-add, pow_pos, pow_mono}
use lib.Ieee.{Float, nan, inf, fin, binary32, up, down, size, nearest, odd, lt, of_bits, to_bits}
use lib.Ieee.Digits.{size-le}
use lib.Ieee.Exact.{HasValue, odd_sign}
use lib.Ieee.Fits.{down_pos, nearest-le, odd-fits}
use lib.Ieee.Bits.{is_true, is_false, of_bits-to_bits}
use Rattle.relay_math.specs.Root.{Exact, overflow_exponent, whole_root_of, nearest_root_of, to_digits, rounding, exponent_range_of}
use Rattle.relay_math.proofs.Nearest.{Cmp}
use Rattle.relay_math.proofs.Scale.{compare_is, four_pos, nearest_scale, size_exact, size_between, size_root, odd_same, below_multiples}
use Rattle.relay_math.proofs.Squares.{odd_sq, sq_lt_back}
use Rattle.relay_math.proofs.WholeRoot.{IsRoot, whole_root_is, root_unique}

-- ---- the nearest whole number from the whole root
-- by how 4 * n compares with the square of q + 1 / 2, doubled
pub nearest_by : (n q k : ℕ) (o : Ordering) → IsRoot n q → Cmp o (4 * n) ((2 * (q / 2 ^ k) + 1) * 2 ^ k * ((2 * (q / 2 ^ k) + 1) * 2 ^ k)) → nearest_root_of n k ≡ nearest (q / 2 ^ k) o
unfolding nearest_root_of
nearest_by n q k o r c =
    let h = (2 * (q / 2 ^ k) + 1) * 2 ^ k in
    ap (λ (w : ℕ). nearest (w / 2 ^ k) (compare (4 * n) ((2 * (w / 2 ^ k) + 1) * 2 ^ k * ((2 * (w / 2 ^ k) + 1) * 2 ^ k)))) (root_unique n q r.0 r.1)
    ∙ ap (nearest (q / 2 ^ k)) (compare_is (4 * n) (h * h) o c)

-- the root of 2 ^ 46 or more has 24 digits, and stays below 2 ^ 24 where it is rounded up
root_low : (n q : ℕ) → 2 ^ 46 ≤ n → n < (q + 1) * (q + 1) → 2 ^ 23 ≤ q
root_low n q h k = let d : 2 ^ 23 < q + 1 = sq_lt_back (2 ^ 23) (q + 1) (lt_of_le_of_lt h k) in omega arith

root_high : (n q : ℕ) → n ≤ 2 ^ 48 - 2 ^ 24 → q * q ≤ n → q < 2 ^ 24
root_high n q h k = sq_lt_back q (2 ^ 24) (lt_of_le_of_lt (le_trans k h) (lit< tt))

root_up : (n q : ℕ) → n ≤ 2 ^ 48 - 2 ^ 24 → q * q + q < n → q + 1 < 2 ^ 24
root_up n q h k = lt_of_not-le (λ (g : 2 ^ 24 ≤ q + 1). not-le_of_lt k (le_trans h (large q g)))
  where
    large : (x : ℕ) → 2 ^ 24 ≤ x + 1 → 2 ^ 48 - 2 ^ 24 ≤ x * x + x
    large x g = let p : (2 ^ 24 - 1) * (2 ^ 24 - 1) ≤ x * x = mul-le-mul (under x g) (under x g) in omega arith
      where
        under : (y : ℕ) → 2 ^ 24 ≤ y + 1 → 2 ^ 24 - 1 ≤ y
        under y k = omega arith

pub root_24 : (n q : ℕ) → 2 ^ 46 ≤ n → n ≤ 2 ^ 48 - 2 ^ 24 → IsRoot n q → (2 ^ 23 ≤ q) × (q < 2 ^ 24)
root_24 n q a b r = (root_low n q a r.1, root_high n q b r.0)

-- With nothing dropped √n is below q + 1 / 2 where n is at most q * q + q, and above it otherwise. No tie arises: 4 * n is even, and the square of 2 * q + 1 is odd.
undropped : (q : ℕ) → (2 * (q / 2 ^ 0) + 1) * 2 ^ 0 ≡ 2 * q + 1
undropped q = mul-one (2 * (q / 1) + 1) ∙ ap (λ (x : ℕ). 2 * x + 1) (div-one q)

pub nearest_down : (n q : ℕ) → IsRoot n q → n ≤ q * q + q → nearest_root_of n 0 ≡ q
nearest_down n q r h =
    let l : 4 * n < (2 * q + 1) * (2 * q + 1) = omega (arith, odd_sq q) in
    nearest_by n q 0 Ordering.lt r (rw (undropped q) l) ∙ div-one q

pub nearest_up : (n q : ℕ) → n ≤ 2 ^ 48 - 2 ^ 24 → IsRoot n q → q * q + q < n → (nearest_root_of n 0 ≡ q + 1) × (q + 1 < 2 ^ 24)
nearest_up n q b r h =
    let l : (2 * q + 1) * (2 * q + 1) < 4 * n = omega (arith, odd_sq q) in
    (nearest_by n q 0 Ordering.gt r (rw (undropped q) l) ∙ ap suc (div-one q) ∙ sym (add-one q), root_up n q b h)

pub nearest_24 : (n : ℕ) → 2 ^ 46 ≤ n → n ≤ 2 ^ 48 - 2 ^ 24 → (2 ^ 23 ≤ nearest_root_of n 0) × (nearest_root_of n 0 < 2 ^ 24)
nearest_24 n a b = go (dec_le n (q * q + q))
  where
    q : ℕ
    q = whole_root_of n

    s : (2 ^ 23 ≤ q) × (q < 2 ^ 24)
    s = root_24 n q a b (whole_root_is n)

    go : Dec (n ≤ q * q + q) → (2 ^ 23 ≤ nearest_root_of n 0) × (nearest_root_of n 0 < 2 ^ 24)
    go (yes h) = rw (nearest_down n q (whole_root_is n) h) s
    go (no f) = let u = nearest_up n q b (whole_root_is n) (lt_of_not-le f) in rw u.0 (le_trans s.0 (le-add_right q 1), u.1)

-- with a digit dropped it is at most 2 ^ 23
pub nearest_23 : (n q k : ℕ) → IsRoot n q → q < 2 ^ 24 → 0 < k → nearest_root_of n k ≤ 2 ^ 23
unfolding nearest_root_of
nearest_23 n q k r u h =
    let w = whole_root_of n in
    let o = compare (4 * n) ((2 * (w / 2 ^ k) + 1) * 2 ^ k * ((2 * (w / 2 ^ k) + 1) * 2 ^ k)) in
    le_trans (nearest-le (w / 2 ^ k) o) ((div-lt_iff_lt-mul (pow_pos k)).1 (lt_of_lt_of_le (lt_of_le_of_lt (le_of_eq (root_unique n q r.0 r.1)) u) (mul-le-mul_left (2 ^ 23) (pow_mono h))))

-- ---- the rounding
-- √n * 2 ^ e / 2 ^ 173
abbrev pub exact_at : ℕ → ℕ → Exact
exact_at n e = record { radicand = n * 4 ^ e; places = 173 }

pub size_24 : (n : ℕ) → 2 ^ 46 ≤ n → n ≤ 2 ^ 48 - 2 ^ 24 → size (whole_root_of n) ≡ 24
size_24 n a b = let s = root_24 n (whole_root_of n) a b (whole_root_is n) in size_exact (whole_root_of n) 23 s.0 s.1

pub rounding_at : (n e : ℕ) → 2 ^ 46 ≤ n → n ≤ 2 ^ 48 - 2 ^ 24 → rounding binary32 (exact_at n e) ≡ odd 25 false (nearest_root_of n 0) e 173
unfolding rounding to_digits
rounding_at n e a b =
    let i = e + 24 in
    let more : n * 4 ^ e * 4 ^ 24 ≡ n * 4 ^ i = mul_assoc n (4 ^ e) (4 ^ 24) ∙ ap (λ (x : ℕ). n * x) (sym (pow-add 4 e 24)) in
    let digits : size (whole_root_of (n * 4 ^ i)) - 24 ≡ i = ap (λ (x : ℕ). x - 24) (size_root n i (lt_of_lt_of_le (lit< tt) a) ∙ ap (λ (x : ℕ). x + i) (size_24 n a b)) ∙ add-sub_cancel_left 24 i in
    ap (λ (m : ℕ). odd 25 false (nearest_root_of m (size (whole_root_of m) - 24)) (size (whole_root_of m) - 24) 197) more
    ∙ ap (λ (k : ℕ). odd 25 false (nearest_root_of (n * 4 ^ i) k) k 197) digits
    ∙ ap (λ (q : ℕ). odd 25 false q i 197) (ap (nearest_root_of (n * 4 ^ i)) (sym (zero-add i)) ∙ nearest_scale n 0 i)
    ∙ odd_same 25 false (nearest_root_of n 0) i 197 e 173 (omega arith)

-- ---- the exponent's range
-- a number from zero up against a power of two
pub below_power : (x : Float) (a c j : ℕ) → 0 < c → HasValue x false a c → lt x (fin false 1 (pos j)) ≡ ltb a (2 ^ j * c)
unfolding lt
below_power nan a c j p h = absurd h
below_power (inf s) a c j p h = absurd h
below_power (fin true m e) a c j p h = absurd (let z : ◌≡◌ {A = ℕ} 0 1 = cc h.0 in omega arith)
below_power (fin false m e) a c j p h =
    let w = m * up e in
    let d = down e in
    sym (below_multiples (w * 1) (1 * 2 ^ j * d) c p)
    ∙ ap (λ (x : ℕ). ltb x (1 * 2 ^ j * d * c)) (ap (λ (x : ℕ). x * c) (mul-one w) ∙ h.1)
    ∙ ap (λ (x : ℕ). ltb (a * d) x) (ap (λ (x : ℕ). x * d * c) (one-mul (2 ^ j)) ∙ mul_right_comm (2 ^ j) d c)
    ∙ below_multiples a (2 ^ j * c) d (down_pos e)

module _ (n e : ℕ) (a : 2 ^ 46 ≤ n) (b : n ≤ 2 ^ 48 - 2 ^ 24) where
  tiny : e < 24 → n * 4 ^ e * 4 ^ 126 < 4 ^ 173
  tiny h =
      let s : n * 4 ^ e < 4 ^ 24 * 4 ^ e = mul-lt-mul_of_pos_right (lt_of_le_of_lt b (lit< tt)) (four_pos e) in
      lt_of_lt_of_le (mul-lt-mul_of_pos_right s (four_pos 126)) (mul-le-mul_right (4 ^ 126) (mul-le-mul_left (4 ^ 24) (pow-le-pow_right (lit< tt) (last h))))
    where
      last : e < 24 → e ≤ 23
      last k = omega arith

  not_tiny : 24 ≤ e → 4 ^ 173 ≤ n * 4 ^ e * 4 ^ 126
  not_tiny h = mul-le-mul_right (4 ^ 126) (mul-le-mul a (pow-le-pow_right (lit< tt) h))

  -- below the least normal number: a number of smallest values
  pub range_tiny : (y : Float) → e < 24 → exponent_range_of binary32 (exact_at n e) y ≡ odd 25 false (nearest_root_of n (24 - e)) 0 149
  unfolding exponent_range_of
  range_tiny y h =
      let more : n * 4 ^ e * 4 ^ 149 ≡ n * 4 ^ (e + 149) = mul_assoc n (4 ^ e) (4 ^ 149) ∙ ap (λ (x : ℕ). n * x) (sym (pow-add 4 e 149)) in
      let places : 173 ≡ 24 - e + (e + 149) = omega arith in
      ap (λ (z : Bool). cond z (odd 25 false (nearest_root_of (n * 4 ^ e * 4 ^ 149) 173) 0 149) (cond (lt y (fin false 1 (pos (overflow_exponent binary32)))) y (inf false))) (is_true (ltb (n * 4 ^ e * 4 ^ 126) (4 ^ 173)) (lt→ltb (n * 4 ^ e * 4 ^ 126) (4 ^ 173) (tiny h)))
      ∙ ap (λ (q : ℕ). odd 25 false q 0 149) (ap (λ (m : ℕ). nearest_root_of m 173) more ∙ ap (nearest_root_of (n * 4 ^ (e + 149))) places ∙ nearest_scale n (24 - e) (e + 149))

  range_else : (y : Float) → 24 ≤ e → exponent_range_of binary32 (exact_at n e) y ≡ cond (lt y (fin false 1 (pos (overflow_exponent binary32)))) y (inf false)
  unfolding exponent_range_of
  range_else y h =
      ap (λ (z : Bool). cond z (odd 25 false (nearest_root_of (n * 4 ^ e * 4 ^ 149) 173) 0 149) (cond (lt y (fin false 1 (pos (overflow_exponent binary32)))) y (inf false)))
      (is_false (ltb (n * 4 ^ e * 4 ^ 126) (4 ^ 173)) (not_T (ltb (n * 4 ^ e * 4 ^ 126) (4 ^ 173)) (λ (t : T (ltb (n * 4 ^ e * 4 ^ 126) (4 ^ 173))). not-le_of_lt (ltb→lt (n * 4 ^ e * 4 ^ 126) (4 ^ 173) t) (not_tiny h))))

  module _ (r : ℕ) (l : 2 ^ 23 ≤ r) (u : r < 2 ^ 24) where
    below : lt (odd 25 false r e 173) (fin false 1 (pos (overflow_exponent binary32))) ≡ ltb (r * 2 ^ e) (2 ^ overflow_exponent binary32 * 2 ^ 173)
    below = below_power (odd 25 false r e 173) (r * 2 ^ e) (2 ^ 173) (overflow_exponent binary32) (pow_pos 173) (odd_sign 25 false r e 173)

    -- beyond the e of emax: infinity
    pub range_large : {E : ℕ} → 2 ^ overflow_exponent binary32 * 2 ^ 173 ≤ 2 ^ 23 * 2 ^ suc E → 24 ≤ E → E < e → exponent_range_of binary32 (exact_at n e) (odd 25 false r e 173) ≡ inf false
    range_large top g h =
        let s : 2 ^ overflow_exponent binary32 * 2 ^ 173 ≤ r * 2 ^ e = le_trans top (mul-le-mul l (pow_mono h)) in
        let y = odd 25 false r e 173 in
        range_else y (le_trans g (le_of_lt h))
        ∙ ap (λ (z : Bool). cond z y (inf false)) (below ∙ is_false (ltb (r * 2 ^ e) (2 ^ overflow_exponent binary32 * 2 ^ 173)) (not_T (ltb (r * 2 ^ e) (2 ^ overflow_exponent binary32 * 2 ^ 173)) (λ (t : T (ltb (r * 2 ^ e) (2 ^ overflow_exponent binary32 * 2 ^ 173))). not-le_of_lt (ltb→lt (r * 2 ^ e) (2 ^ overflow_exponent binary32 * 2 ^ 173) t) s)))

    -- between: nothing changes
    pub range_inside : {E : ℕ} → 2 ^ 24 * 2 ^ E ≤ 2 ^ overflow_exponent binary32 * 2 ^ 173 → 24 ≤ e → e ≤ E → exponent_range_of binary32 (exact_at n e) (odd 25 false r e 173) ≡ odd 25 false r e 173
    range_inside top g h =
        let s : r * 2 ^ e < 2 ^ overflow_exponent binary32 * 2 ^ 173 = lt_of_lt_of_le (mul-lt-mul_of_pos_right u (pow_pos e)) (le_trans (mul-le-mul_left (2 ^ 24) (pow_mono h)) top) in
        let y = odd 25 false r e 173 in
        range_else y g ∙ ap (λ (z : Bool). cond z y (inf false)) (below ∙ is_true (ltb (r * 2 ^ e) (2 ^ overflow_exponent binary32 * 2 ^ 173)) (lt→ltb (r * 2 ^ e) (2 ^ overflow_exponent binary32 * 2 ^ 173) s))

-- ---- patterns
-- the pattern of a number of `a` smallest values
pub bits_of : (x : Float) (a : ℕ) → HasValue x false a (2 ^ 149) → to_bits binary32 x ≡ (size a - 24) * 8388608 + a / 2 ^ (size a - 24)
unfolding to_bits
bits_of nan a h = absurd h
bits_of (inf s) a h = absurd h
bits_of (fin true m e) a h = absurd (let z : ◌≡◌ {A = ℕ} 0 1 = cc h.0 in omega arith)
bits_of (fin false m e) a h =
    let v : m * up e * 2 ^ 149 / down e ≡ a = ap (λ (x : ℕ). x / down e) h.1 ∙ mul-div_cancel a (down_pos e) in
    ap (λ (x : ℕ). 0 + (size x - 24) * 8388608 + x / 2 ^ (size x - 24)) v ∙ ap (λ (x : ℕ). x + a / 2 ^ (size a - 24)) (zero-add ((size a - 24) * 8388608))

-- the pattern of a number below 2 ^ 24 smallest values is that number
pub small_is : (a : ℕ) → a < 2 ^ 24 → of_bits binary32 a ≡ odd 25 false a 0 149
small_is a u =
    let x = odd 25 false a 0 149 in
    let s : size a - 24 ≡ 0 = none (size a) (size-le a 24 u) in
    let w : to_bits binary32 x ≡ a =
    bits_of x a (subst (λ (y : ℕ). HasValue x false y (2 ^ 149)) (mul-one a) (odd_sign 25 false a 0 149)) ∙ ap (λ (k : ℕ). k * 8388608 + a / 2 ^ k) s ∙ ap (λ (y : ℕ). 0 + y) (div-one a) ∙ zero-add a in
    ap (of_bits binary32) (sym w) ∙ of_bits-to_bits binary32 x (odd-fits binary32 25 false a 0 (lt_of_lt_of_le u (lit≤ tt)) (le_of_lt u) (lt_of_le_of_lt (le_of_eq (mul-one a)) (lt_of_lt_of_le u (lit≤ tt))))
  where
    none : (s : ℕ) → s ≤ 24 → s - 24 ≡ 0
    none s h = omega arith

-- the exponent's field j and the digits r, the leading one of which adds one to the field, are r * 2 ^ j smallest values
pub packed_is : (r j : ℕ) → 2 ^ 23 ≤ r → r < 2 ^ 24 → j ≤ 253 → of_bits binary32 (j * 8388608 + r) ≡ odd 25 false r j 149
packed_is r j l u b =
    let x = odd 25 false r j 149 in
    let a = r * 2 ^ j in
    let s : size a - 24 ≡ j = ap (λ (y : ℕ). y - 24) (size_between a r j (lt_of_lt_of_le (lit< tt) l) (le_of_eq refl) (mul-lt-mul_of_pos_right (lt_add_one r) (pow_pos j)) ∙ ap (λ (y : ℕ). y + j) (size_exact r 23 l u)) ∙ add-sub_cancel_left 24 j in
    let w : to_bits binary32 x ≡ j * 8388608 + r =
    bits_of x a (odd_sign 25 false r j 149) ∙ ap (λ (k : ℕ). k * 8388608 + a / 2 ^ k) s ∙ ap (λ (y : ℕ). j * 8388608 + y) (mul-div_cancel r (pow_pos j)) in
    let under : a < 2 ^ 277 = lt_of_lt_of_le (mul-lt-mul_of_pos_right u (pow_pos j)) (mul-le-mul_left (2 ^ 24) (pow_mono b)) in
    ap (of_bits binary32) (sym w) ∙ of_bits-to_bits binary32 x (odd-fits binary32 25 false r j (lt_of_lt_of_le u (lit≤ tt)) (le_of_lt u) under)
  where
    lt_add_one : (y : ℕ) → y < y + 1
    lt_add_one y = omega arith
