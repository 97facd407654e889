-- `closer`: the sum of an estimate and a quotient fits, and a step is never below the whole root.
use Prim.Native.Nat.{ℕ, ◌/◌, ◌^◌, ◌≤◌, ◌<◌}
use native.Mathlib.Nat.{lt_of_lt_of_le, mul-le-mul_left, div-lt_iff_lt-mul}
use native.Mathlib.Omega.{arith}
use Rattle.relay_math.proofs.Squares.{newton_above}
use Rattle.relay_math.proofs.root.Digits48.closer.Goals as goal

quotient : (n g : ℕ) → n < 2 ^ 48 → 0x20_0000 ≤ g → n / g < 2 ^ 27
quotient n g h k = (div-lt_iff_lt-mul (above g k)).1 (lt_of_lt_of_le h (mul-le-mul_left (2 ^ 27) k))
  where
    above : (x : ℕ) → 0x20_0000 ≤ x → 0 < x
    above x l = omega arith

pub returns : goal.returns
returns c = let l = quotient c.args.self.n c.args.g c.args.self.below c.requires.0 in
    (omega arith, omega arith, newton_above c.args.self.n c.args.g (omega arith))
