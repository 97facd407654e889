-- What is written as a pattern or a flag's number is read again, and every pattern but a NaN's is written again.
use mathlib.Core.Path.{◌≡◌, refl, sym}
use mathlib.Core.Bool.{Bool, true, false, cond}
use Prim.Native.Nat.{ℕ, ◌^◌, ◌<◌}
use lib.Dec.{T, eqb}
use lib.Ieee.{Float, binary32, fits, is_nan, nan_bits, of_bits, to_bits}
use lib.Ieee.Bits.{of_bits-to_bits, to_bits-of_bits, nan_bits_is}
use Rattle.relay_math.specs.Small.{flag_number}
use Rattle.relay_math.proofs.Small.{nan_written}

-- ---- bits
-- what is written is read again
pub read_back : (x : Float) → T (fits binary32 x) → of_bits binary32 (to_bits binary32 x) ≡ x
read_back x h = of_bits-to_bits binary32 x h

-- what is read is written again, every NaN as 7FC00000
pub written_again : (b : ℕ) → b < 2 ^ 32 → to_bits binary32 (of_bits binary32 b) ≡ cond (nan_bits binary32 b) 0x7fc0_0000 b
written_again b h = go (nan_bits binary32 b) (sym (nan_bits_is binary32 b))
  where
    go : (z : Bool) → is_nan (of_bits binary32 b) ≡ z → to_bits binary32 (of_bits binary32 b) ≡ cond z 0x7fc0_0000 b
    go true e = sym (nan_written (of_bits binary32 b) e)
    go false e = to_bits-of_bits binary32 b h (rw e tt)

-- a flag too
pub flag_back : (b : Bool) → eqb (flag_number b) 1 ≡ b
flag_back true = refl
flag_back false = refl
