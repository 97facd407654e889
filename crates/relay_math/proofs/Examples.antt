-- The roots of ten numbers by their bits, as the definition computes them.
use Prim.Native.Nat.{ℕ}
use mathlib.Core.Path.{◌≡◌, refl}
use mathlib.Core.List.{[], ◌∷◌, map}
use lib.Ieee.{binary32, of_bits, to_bits, odd, size, lt}
use Rattle.relay_math.specs.Root.{root_by, whole_root_of, nearest_root_of, special_operands_of, unlimited_precision_of, to_digits, rounding, exponent_range_of, root_of, root}

abbrev root_bits : ℕ → ℕ
root_bits b = to_bits binary32 (root (of_bits binary32 b))

-- 4.0, -0.0, -1.0 (P rows of document 01), 2.0, 5.0 (rounded up), the smallest subnormal, the largest finite number, infinity, minus infinity, a NaN
rows :
    map root_bits (0x4080_0000 ∷ 0x8000_0000 ∷ 0xbf80_0000 ∷ 0x4000_0000 ∷ 0x40a0_0000 ∷ 1 ∷ 0x7f7f_ffff ∷ 0x7f80_0000 ∷ 0xff80_0000 ∷ 0xffc0_0001 ∷ [])
    ≡ (0x4000_0000 ∷ 0x8000_0000 ∷ 0x7fc0_0000 ∷ 0x3fb5_04f3 ∷ 0x400f_1bbd ∷ 0x1a35_04f3 ∷ 0x5f7f_ffff ∷ 0x7f80_0000 ∷ 0x7fc0_0000 ∷ 0x7fc0_0000 ∷ [])
unfolding root_of special_operands_of unlimited_precision_of to_digits rounding exponent_range_of nearest_root_of whole_root_of root_by of_bits to_bits odd size lt
rows = refl
