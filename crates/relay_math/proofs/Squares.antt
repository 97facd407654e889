-- Squares of whole numbers, and what a step of Newton's method towards a root gives.
use mathlib.Core.Path.{◌≡◌, subst}
use Prim.Native.Nat.{ℕ, suc, ◌+◌, ◌*◌, ◌/◌, ◌≤◌, ◌<◌}
use native.Mathlib.Nat.{le_of_lt, lt_of_not-le, not-le_of_lt, lt-suc_self, le_dest, add-mul, mul-add, mul_assoc, mul_comm, mul-mul-mul_comm, mul-le-mul, mul-le-mul_right, div-lt_iff_lt-mul}
use native.Mathlib.Decide.{dec_le}
use native.Mathlib.Omega.{arith}

pub next : (a b : ℕ) → a < b → a + 1 ≤ b
next a b h = omega arith

pub sq_suc : (a : ℕ) → (a + 1) * (a + 1) ≡ a * a + 2 * a + 1
sq_suc a = omega (arith, add-mul a 1 (a + 1), mul-add a a 1)

pub odd_sq : (r : ℕ) → (2 * r + 1) * (2 * r + 1) ≡ 4 * (r * r) + 4 * r + 1
odd_sq r = omega (arith, sq_suc (2 * r), mul-mul-mul_comm 2 r 2 r)

pub sq_lt : (a b : ℕ) → a < b → a * a < b * b
sq_lt a b h = let k : (a + 1) * (a + 1) ≤ b * b = mul-le-mul (next a b h) (next a b h) in omega (arith, sq_suc a)

pub sq_lt_back : (a b : ℕ) → a * a < b * b → a < b
sq_lt_back a b h = lt_of_not-le (λ (g : b ≤ a). not-le_of_lt h (mul-le-mul g g))

-- twice a product is at most the two squares
ordered : (a b : ℕ) → a ≤ b → 2 * (a * b) ≤ a * a + b * b
ordered a b h =
    let d = (le_dest h).0 in
    subst (λ (x : ℕ). 2 * (a * x) ≤ a * a + x * x) (le_dest h).1 (omega (arith, mul-add a a d, add-mul a d (a + d), mul-add d a d, mul_comm d a))

pub products : (a b : ℕ) → 2 * (a * b) ≤ a * a + b * b
products a b = either (dec_le a b)
  where
    either : Dec (a ≤ b) → 2 * (a * b) ≤ a * a + b * b
    either (yes h) = ordered a b h
    either (no f) = omega (arith, ordered b a (le_of_lt (lt_of_not-le f)), mul_comm a b)

-- a step from any estimate above zero is no less than the whole root
pub newton_above : (n g : ℕ) → 0 < g → n < ((g + n / g) / 2 + 1) * ((g + n / g) / 2 + 1)
newton_above n g p =
    let q = n / g in
    let m = (g + q) / 2 + 1 in
    let next : n < suc q * g = (div-lt_iff_lt-mul p).0 (lt-suc_self q) in
    let twice : g + suc q ≤ 2 * m = omega arith in
    let wide : (g + suc q) * g ≤ 2 * m * g = mul-le-mul_right g twice in
    let parts = add-mul g (suc q) g in
    let pair = mul_assoc 2 m g in
    let most = products m g in
    omega arith
