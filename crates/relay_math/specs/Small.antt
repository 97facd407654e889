-- `f32::max`, `f32::clamp` and `u32::saturating_add` of Rust's library, and floats and flags as numbers, both ways.
use Rattle.std.specs.Prelude.{ℕ, min, ◌+◌, ◌-◌, ◌^◌, Bool, true, false, cond, List, ◌==◌, slice_index, Float}
use Rattle.std.specs.Float.{binary32}
use Rattle.std.specs.Float.Ieee.{of_bits, to_bits, is_nan, lt}

-- the f32 of these bits
abbrev pub f32 : ℕ → Float
f32 bits = of_bits binary32 bits

-- 0.0
abbrev pub f32_zero : Float
f32_zero = f32 0

-- 1.0
abbrev pub f32_one : Float
f32_one = f32 0x3f80_0000

-- `max`: the larger, and the other where one is NaN
unfoldable pub max_of : Float → Float → Float
max_of x y = cond (is_nan y) x (cond (lt y x) x y)

-- `clamp`: cut to lo..hi; a NaN is below no end and above none, so it is kept
unfoldable pub clamp_of : Float → Float → Float → Float
clamp_of x lo hi = cond (lt x lo) lo (cond (lt hi x) hi x)

-- `saturating_add`: the sum, at most the largest u32
abbrev pub saturating_add_of : ℕ → ℕ → ℕ
saturating_add_of a b = min (a + b) (2 ^ 32 - 1)

-- a flag as a number
abbrev pub flag_number : Bool → ℕ
flag_number true = 1
flag_number false = 0

-- "Floats are their bits as a number."
abbrev pub bits : Float → ℕ
bits x = to_bits binary32 x

-- number k of a list, counted from 0
abbrev pub number_at : List ℕ → ℕ → ℕ
number_at ns k = slice_index ns k

-- the float of number k
abbrev pub float_at : List ℕ → ℕ → Float
float_at ns k = f32 (number_at ns k)

-- the flag of number k: 1 alone is true
abbrev pub flag_at : List ℕ → ℕ → Bool
flag_at ns k = number_at ns k == 1
