-- What `and`, `or`, the complement and `with_bit_of` do to each bit of a mask.
use Rattle.std.proofs.Common.{◌≡◌, ℕ, suc, ◌-◌, ◌/◌, ◌%◌, ◌^◌, ◌<◌, min, max, Bool, true, false, cond, not, ◌&&◌, ◌||◌, arith, rules}
use Rattle.std.proofs.lemmas.Nat.Bits.{bit_at_lowest, bit_at-suc, bit_at-zero, bit_at_and, bit_at_or, bit_at_not, bit_at-pow_same, bit_at-pow_other, bit_at-lt}
use Rattle.std.proofs.lemmas.Bool.Decides.{nat_tests}
use native.Mathlib.Nat.{lt_of_le_of_lt}
use lib.Dec.{eqb}
use lib.Pow.{pow-lt}
use lib.Bits.{bit_and, bit_or, and_le_l, or_lt}
use Rattle.std.proofs.Common.{w32}
use Rattle.relay_preflight.specs.Table.{bit_of, with_bit_of}

-- bit 0 is the remainder by 2
pub bit_of_lowest : (m : ℕ) → bit_of m 0 ≡ eqb (m % 2) 1
unfolding bit_of
bit_of_lowest m = simp bit_at_lowest

-- halving moves every bit down by one
pub bit_of_suc : (m k : ℕ) → bit_of m (suc k) ≡ bit_of (m / 2) k
unfolding bit_of
bit_of_suc m k = simp bit_at-suc

pub bit_of_zero : (k : ℕ) → bit_of 0 k ≡ false
unfolding bit_of
bit_of_zero k = simp bit_at-zero

min_bits : (x y : ℕ) → x < 2 → y < 2 → eqb (min x y) 1 ≡ (eqb x 1 && eqb y 1)
min_bits x y h k = grind (arith, nat_tests)

max_bits : (x y : ℕ) → x < 2 → y < 2 → eqb (max x y) 1 ≡ (eqb x 1 || eqb y 1)
max_bits x y h k = grind (arith, nat_tests)

flipped_bit : (x : ℕ) → x < 2 → eqb (1 - x) 1 ≡ not (eqb x 1)
flipped_bit x h = grind (arith, nat_tests)

-- a bit of `a & b`
pub bit_of_and : (a b k : ℕ) → bit_of (bit_and a b) k ≡ (bit_of a k && bit_of b k)
unfolding bit_of
bit_of_and a b k = simp bit_at_and (min_bits _ _ (bit_at-lt a k) (bit_at-lt b k))

-- a bit of `a | b`
pub bit_of_or : (a b k : ℕ) → bit_of (bit_or a b) k ≡ (bit_of a k || bit_of b k)
unfolding bit_of
bit_of_or a b k = simp bit_at_or (max_bits _ _ (bit_at-lt a k) (bit_at-lt b k))

-- a bit of `!p`
pub bit_of_not : (p k : ℕ) → p < 2 ^ 32 → k < 32 → bit_of (2 ^ 32 - 1 - p) k ≡ not (bit_of p k)
unfolding bit_of
bit_of_not p k h l = simp (bit_at_not w32 p k h l) (flipped_bit _ (bit_at-lt p k))

-- a bit of `1 << n`
pub bit_of_pow : (n k : ℕ) → bit_of (2 ^ n) k ≡ eqb n k
unfolding bit_of
bit_of_pow n k = grind (arith, nat_tests, bit_at-pow_same, bit_at-pow_other)

put : (e x : Bool) → (x || e) ≡ cond e true x
put e x = search rules

cut : (e x : Bool) → (x && not e) ≡ cond e false x
cut e x = search rules

-- `with_bit_of` gives bit n the value b, and keeps every other bit
pub bit_of_with : (m n k : ℕ) (b : Bool) → n < 32 → k < 32 → bit_of (with_bit_of m n b) k ≡ cond (eqb n k) b (bit_of m k)
unfolding with_bit_of
bit_of_with m n k true h l = simp (bit_of_or, bit_of_pow, put)
bit_of_with m n k false h l = simp (bit_of_and, bit_of_not (2 ^ n) k (pow-lt h) l, bit_of_pow, cut)

-- a mask of w bits stays one
pub with_lt : (w m n : ℕ) (b : Bool) → m < 2 ^ w → n < w → with_bit_of m n b < 2 ^ w
unfolding with_bit_of
with_lt w m n true h l = or_lt w m (2 ^ n) h (pow-lt l)
with_lt w m n false h l = lt_of_le_of_lt (and_le_l m (2 ^ 32 - 1 - 2 ^ n)) h
