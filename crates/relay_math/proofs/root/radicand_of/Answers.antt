-- `radicand_of`: the digits of a normal number with its leading one, those of a subnormal number shifted until there are 24.
use Prim.Native.Nat.{ℕ, ◌-◌, ◌*◌, ◌%◌, ◌^◌, ◌≤◌, ◌<◌}
use mathlib.Core.Path.{◌≡◌}
use native.Mathlib.Nat.{lt_of_lt_of_le, mod-eq_of_lt}
use native.Mathlib.Omega.{arith}
use lib.Dec.{lit≤}
use lib.Count.{count_leading_zeros}
use Rattle.relay_math.proofs.Patterns.{zeros, value_normal, value_subnormal}
use Rattle.relay_math.proofs.root.radicand_of.Goals.{Else-b-ge8388608}
use Rattle.relay_math.proofs.root.radicand_of.Goals as goal

pub returns-then-b-ge8388608 : goal.returns-then-b-ge8388608
returns-then-b-ge8388608 c = rw (c.from.ensures, c.from-then-b-ge8388608.ensures) (omega arith, omega arith, omega arith, omega arith, value_normal c.args.b c.if-b-ge8388608.true c.requires.1)

-- a subnormal pattern and its leading zeros
at : (c : Else-b-ge8388608) → (9 ≤ count_leading_zeros 32 c.args.b) × (count_leading_zeros 32 c.args.b ≤ 31)
    × (8388608 ≤ c.args.b * 2 ^ (count_leading_zeros 32 c.args.b - 8)) × (c.args.b * 2 ^ (count_leading_zeros 32 c.args.b - 8) < 16777216)
at c = zeros c.args.b c.requires.0 c.if-b-ge8388608.false

shifted : (a : ℕ) → a < 16777216 → a % 2 ^ 32 ≡ a
shifted a h = mod-eq_of_lt (lt_of_lt_of_le h (lit≤ tt))

pub overflow_sub-k : goal.overflow_sub-k
overflow_sub-k c = omega (arith, (at (goal.at.overflow_sub-k c).Else-b-ge8388608).0)

pub returns : goal.returns
returns c = let b = c.args.b in
    let z = count_leading_zeros 32 b in
    let a = at (goal.at.returns c).Else-b-ge8388608 in
    let e : (b * 2 ^ (z - 8)) % 2 ^ 32 ≡ b * 2 ^ (z - 8) = shifted (b * 2 ^ (z - 8)) a.3 in
    rw (c.from-2.ensures, c.from-3.ensures, e) (a.2, a.3, omega (arith, a.1), omega (arith, a.0), value_subnormal b (z - 8) c.if-b-ge8388608.false (omega (arith, a.1)))
