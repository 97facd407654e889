-- For every n and k the whole number nearest to √n / 2 ^ k is within a half of it.
use mathlib.Core.Path.{◌≡◌, sym, ap, ◌∙◌, subst}
use mathlib.Core.Bool.{not}
use Prim.Native.Nat.{ℕ, zero, suc, ◌+◌, ◌-◌, ◌*◌, ◌/◌, ◌%◌, ◌^◌, ◌≤◌, ◌<◌, compare, Ordering}
use native.Mathlib.Nat.{le_trans, le_of_eq, le_of_lt, lt_of_lt_of_le, le-add_right, add-zero, mod-lt, sub-le, suc-mul, mul_assoc, mul-mul-mul_comm, mul-le-mul, mul-le-mul_left, mul-le-mul_right, div-mul-le_self, lt-div-mul-add}
use native.Mathlib.Numerals.{add-one}
use native.Mathlib.Omega.{arith}
use lib.Dec.{T, eqb, eqb→eq, lit<, is_le, compare_is_eq, leb→le, nleb→lt, eqb_refl}
use lib.Arith.{lt_of_le-ne}
use lib.Pow.{pow_pos}
use lib.Ieee.{nearest}
use Rattle.relay_math.specs.Root.{whole_root_of, nearest_root_of}
use Rattle.relay_math.proofs.WholeRoot.{whole_root_is}

-- what an Ordering says
abbrev pub Cmp : Ordering → ℕ → ℕ → Type 0
Cmp Ordering.lt a b = a < b
Cmp Ordering.eq a b = a ≡ b
Cmp Ordering.gt a b = b < a

pub cmp : (a b : ℕ) → Cmp (compare a b) a b
cmp a b = go (compare a b) (leb→le a b) (nleb→lt a b) (eqb→eq a b) (λ (e : a ≡ b). subst (λ (x : ℕ). T (eqb a x)) e (eqb_refl a))
  where
    go : (o : Ordering) → (T (is_le o) → a ≤ b) → (T (not (is_le o)) → b < a) → (T (compare_is_eq o) → a ≡ b) → (a ≡ b → T (compare_is_eq o)) → Cmp o a b
    go Ordering.lt h k e n = lt_of_le-ne (h tt) n
    go Ordering.eq h k e n = e tt
    go Ordering.gt h k e n = k tt

-- r times p is within half a unit p of √n
abbrev pub Within : ℕ → ℕ → ℕ → Type 0
Within n r p = ((2 * r - 1) * p * ((2 * r - 1) * p) ≤ 4 * n) × (4 * n ≤ (2 * r + 1) * p * ((2 * r + 1) * p))

-- squares of multiples grow
grow : (a b p : ℕ) → a ≤ b → a * p * (a * p) ≤ b * p * (b * p)
grow a b p h = mul-le-mul (mul-le-mul_right p h) (mul-le-mul_right p h)

doubled : (q p : ℕ) → 2 * q * p * (2 * q * p) ≡ 4 * (q * p * (q * p))
doubled q p = ap (λ (x : ℕ). x * x) (mul_assoc 2 q p) ∙ mul-mul-mul_comm 2 (q * p) 2 (q * p)

module _ (n q p : ℕ) (low : q * p * (q * p) ≤ n) (high : n < (q + 1) * p * ((q + 1) * p)) where
  below : (2 * q - 1) * p * ((2 * q - 1) * p) ≤ 4 * n
  below = le_trans (grow (2 * q - 1) (2 * q) p (sub-le (2 * q) 1)) (le_trans (le_of_eq (doubled q p)) (mul-le-mul_left 4 low))

  above : 4 * n ≤ (2 * (q + 1) + 1) * p * ((2 * (q + 1) + 1) * p)
  above = le_trans (mul-le-mul_left 4 (le_of_lt high)) (le_trans (le_of_eq (sym (doubled (q + 1) p))) (grow (2 * (q + 1)) (2 * (q + 1) + 1) p (le-add_right (2 * (q + 1)) 1)))

  odd_one : 2 * (q + 1) - 1 ≡ 2 * q + 1
  odd_one = omega arith

  within_low : 4 * n ≤ (2 * q + 1) * p * ((2 * q + 1) * p) → Within n q p
  within_low h = (below, h)

  within_high : (2 * q + 1) * p * ((2 * q + 1) * p) ≤ 4 * n → Within n (q + 1) p
  within_high h = (rw odd_one h, above)

  within : (o : Ordering) → Cmp o (4 * n) ((2 * q + 1) * p * ((2 * q + 1) * p)) → Within n (nearest q o) p
  within Ordering.lt h = within_low (le_of_lt h)
  within Ordering.gt h = rw (sym (add-one q)) (within_high (le_of_lt h))
  within Ordering.eq h = go (q % 2) (mod-lt q (lit< tt))
    where
      go : (z : ℕ) → z < 2 → Within n (q + z) p
      go zero k = rw add-zero (within_low (le_of_eq h))
      go (suc zero) k = within_high (le_of_eq (sym h))
      go (suc (suc z)) k = absurd (omega arith)

-- for every n and k the nearest whole number is within half a unit 2 ^ k of √n
pub root_nearest : (n k : ℕ) → Within n (nearest_root_of n k) (2 ^ k)
unfolding nearest_root_of
root_nearest n k =
    let p = 2 ^ k in
    let w = whole_root_of n in
    let q = w / p in
    let r = whole_root_is n in
    let l : q * p ≤ w = div-mul-le_self w p in
    let u : w < (q + 1) * p = lt_of_lt_of_le (lt-div-mul-add (pow_pos k)) (le_of_eq (sym (suc-mul q p) ∙ ap (λ (x : ℕ). x * p) (sym (add-one q)))) in
    let u' : w + 1 ≤ (q + 1) * p = le_trans (le_of_eq (add-one w)) u in
    let h = (2 * q + 1) * p in
    within n q p (le_trans (mul-le-mul l l) r.0) (lt_of_lt_of_le r.1 (mul-le-mul u' u')) (compare (4 * n) (h * h)) (cmp (4 * n) (h * h))
