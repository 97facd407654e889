-- `sanitize` and the curve `ocv_soc_cell` of relay-batt.
use Rattle.std.specs.Prelude.{ℕ, cond, List, [], ◌∷◌, Float}
use Rattle.std.specs.Float.{binary32}
use Rattle.std.specs.Float.Ieee.{add, sub, mul, div, le}
use Rattle.std.specs.Float.Ieee.Scale.{finite}
use Rattle.relay_math.specs.Small.{f32, f32_zero, f32_one, clamp_of}
use Rattle.relay_batt.specs.declared.curve.Knot.{Knot}

-- `sanitize`: what is not finite becomes the default, and then the number is cut to lo..hi
unfoldable pub sanitize_of : Float → Float → Float → Float → Float
sanitize_of x lo hi d = clamp_of (cond (finite x) x d) lo hi

-- a pair of the table, by the bits of its volts and of its charge
abbrev pub knot : ℕ → ℕ → Knot
knot v s = record { v = f32 v; s = f32 s }

-- "The curve is a table of eight pairs from 3.50 V (0) to 4.20 V (1)": `CURVE`
unfoldable pub knots : List Knot
knots =
    knot 0x4060_0000 0
    ∷ knot 0x4069_999a 0x3dcc_cccd
    ∷ knot 0x406e_147b 0x3e4c_cccd
    ∷ knot 0x4072_8f5c 0x3ecc_cccd
    ∷ knot 0x4076_6666 0x3f0c_cccd
    ∷ knot 0x407c_cccd 0x3f40_0000
    ∷ knot 0x4083_3333 0x3f73_3333
    ∷ knot 0x4086_6666 0x3f80_0000
    ∷ []

-- the line through two knots: `s0 + (s1 - s0) * (v - v0) / (v1 - v0)`
abbrev pub between : Knot → Knot → Float → Float
between a b v = add binary32 a.s (div binary32 (mul binary32 (sub binary32 b.s a.s) (sub binary32 v a.v)) (sub binary32 b.v a.v))

-- the loop of `ocv_soc_cell`: the first knot that is not below v ends the segment, and above the last the charge is 1
unfoldable pub walk : Float → Knot → List Knot → Float
walk v a [] = f32_one
walk v a (b ∷ l) = cond (le v b.v) (between a b v) (walk v b l)

-- a table of knots at v: 0 up to its first knot
unfoldable pub table_of : List Knot → Float → Float
table_of [] v = f32_zero
table_of (a ∷ l) v = cond (le v a.v) f32_zero (walk v a l)

-- 5.0 V, the most that a cell is taken to have
abbrev pub cell_max : Float
cell_max = f32 0x40a0_0000

-- `ocv_soc_cell`: the curve at the volts cut to 0..5
unfoldable pub ocv_soc_cell_of : Float → Float
ocv_soc_cell_of v = table_of knots (sanitize_of v f32_zero cell_max f32_zero)
