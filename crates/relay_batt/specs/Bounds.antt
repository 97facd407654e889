-- A float between two others, and lists of tests.
use Rattle.std.specs.Prelude.{Bool, true, ◌&&◌, T, List, [], ◌∷◌, Float}
use Rattle.std.specs.Float.Ieee.{le}

-- lo ≤ x ≤ hi
pub record Within (lo hi x : Float) : Type 0 where
  pub low : T (le lo x)
  pub high : T (le x hi)

-- the same as a test
abbrev pub within : Float → Float → Float → Bool
within lo hi x = le lo x && le x hi

-- every test of a list passes
abbrev pub all : List Bool → Bool
all [] = true
all (b ∷ l) = b && all l
