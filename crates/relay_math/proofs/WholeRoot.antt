-- `whole_root_of n` is the q with q * q ≤ n < (q + 1) * (q + 1), and the only one.
use mathlib.Core.Path.{◌≡◌}
use mathlib.Core.Bool.{Bool, true, false, not, cond}
use Prim.Native.Nat.{ℕ, zero, suc, ◌+◌, ◌*◌, ◌/◌, ◌^◌, ◌≤◌, ◌<◌}
use native.Mathlib.Nat.{lt_of_le_of_lt, lt_of_lt_of_le, pow-suc, pow-le-pow_left, div-lt_iff_lt-mul}
use native.Mathlib.Omega.{arith}
use lib.Dec.{T, leb, leb→le, nleb→lt, lit<, lit≤}
use lib.Ieee.{size}
use lib.Ieee.Digits.{size-lt}
use Rattle.relay_math.specs.Root.{root_by, whole_root_of}
use Rattle.relay_math.proofs.Squares.{sq_suc, odd_sq, sq_lt_back}

-- q is the whole root of n
abbrev pub IsRoot : ℕ → ℕ → Type 0
IsRoot n q = (q * q ≤ n) × (n < (q + 1) * (q + 1))

-- two more digits of n give one more of the root
step : (n r : ℕ) → IsRoot (n / 4) r → IsRoot n (cond (leb ((2 * r + 1) * (2 * r + 1)) n) (2 * r + 1) (2 * r))
step n r h = go (leb ((2 * r + 1) * (2 * r + 1)) n) (leb→le ((2 * r + 1) * (2 * r + 1)) n) (nleb→lt ((2 * r + 1) * (2 * r + 1)) n)
  where
    go : (b : Bool) → (T b → (2 * r + 1) * (2 * r + 1) ≤ n) → (T (not b) → n < (2 * r + 1) * (2 * r + 1)) → IsRoot n (cond b (2 * r + 1) (2 * r))
    go true l g = (l tt, omega (arith, l tt, sq_suc (2 * r + 1), odd_sq r, sq_suc r))
    go false l g = (omega (arith, odd_sq r, sq_suc (2 * r)), g tt)

root_by_is : (d n : ℕ) → n < 4 ^ d → IsRoot n (root_by d n)
unfolding root_by
root_by_is zero n h = (omega arith, omega arith)
root_by_is (suc d) n h = step n (root_by d (n / 4)) (root_by_is d (n / 4) ((div-lt_iff_lt-mul (lit< tt)).1 (rw pow-suc at h)))

pub whole_root_is : (n : ℕ) → (whole_root_of n * whole_root_of n ≤ n) × (n < (whole_root_of n + 1) * (whole_root_of n + 1))
unfolding whole_root_of
whole_root_is n = root_by_is (size n) n (lt_of_lt_of_le (size-lt n) (pow-le-pow_left (lit≤ tt) (size n)))

pub root_unique : (n q : ℕ) → q * q ≤ n → n < (q + 1) * (q + 1) → whole_root_of n ≡ q
root_unique n q l u =
    let w = whole_root_is n in
    let a : q < whole_root_of n + 1 = sq_lt_back q (whole_root_of n + 1) (lt_of_le_of_lt l w.1) in
    let b : whole_root_of n < q + 1 = sq_lt_back (whole_root_of n) (q + 1) (lt_of_le_of_lt w.0 u) in
    omega arith
