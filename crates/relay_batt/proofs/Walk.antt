-- A step of the walk along the table ends at the first two knots that are left of it or passes the first.
use Rattle.std.proofs.Common.{◌≡◌, ◌<◌, ◌≤◌, true, false, List, [], ◌∷◌, length, get_or, take, drop, refl, arith}
use lib.Ieee.{Float, nan, le}
use Rattle.relay_math.specs.Small.{f32_one}
use Rattle.relay_batt.specs.Curve.{between, walk}
use Rattle.relay_batt.specs.declared.curve.Knot.{Knot}

-- the charge that is found from there on
abbrev pub rest : Float → List Knot → Float
rest v [] = f32_one
rest v (a ∷ l) = walk v a l

-- what the code reads beyond a table
abbrev no_knot : Knot
no_knot = record { v = nan; s = nan }

-- the first two knots of l end the walk
pub found : (v : Float) (l : List Knot) → 2 ≤ length l → le v (get_or (take 2 l) 1 no_knot).v ≡ true → between (get_or (take 2 l) 0 no_knot) (get_or (take 2 l) 1 no_knot) v ≡ rest v l
unfolding walk
found v [] h e = absurd (omega arith)
found v (a ∷ []) h e = absurd (omega arith)
found v (a ∷ (b ∷ l)) h e = simp e

-- or they do not
pub passed : (v : Float) (l : List Knot) → 2 ≤ length l → le v (get_or (take 2 l) 1 no_knot).v ≡ false → rest v (drop 1 l) ≡ rest v l
unfolding walk
passed v [] h e = absurd (omega arith)
passed v (a ∷ []) h e = absurd (omega arith)
passed v (a ∷ (b ∷ l)) h e = simp e

pub ended : (v : Float) (l : List Knot) → length l < 2 → f32_one ≡ rest v l
unfolding walk
ended v [] h = refl
ended v (a ∷ []) h = refl
ended v (a ∷ (b ∷ l)) h = absurd (omega arith)
