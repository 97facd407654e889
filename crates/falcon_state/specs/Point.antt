-- Points, and what a place with no waypoint in use holds.
use Rattle.std.specs.Prelude.{ℕ, ◌+◌, ◌*◌, List, get_or, Float}
use Rattle.std.specs.Float.{nan}
use Rattle.relay_math.specs.Small.{f32_zero}
use Rattle.falcon_state.specs.declared.point.Point.{Point}

abbrev pub point_of : Float → Float → Float → Point
point_of x y z = record { x = x; y = y; z = z }

-- what an unused place of the mission holds
abbrev pub origin : Point
origin = point_of f32_zero f32_zero f32_zero

-- what is read past the end of a list of points
abbrev pub nowhere : Point
nowhere = point_of nan nan nan

-- "The supervisor's state holds sixteen points and eight zones by value."
abbrev pub max_waypoints : ℕ
max_waypoints = 16

-- how many numbers of a lent list are a point
abbrev pub point_numbers_of : ℕ
point_numbers_of = 3

-- point i of a lent list
unfoldable pub point_at_of : List Float → ℕ → Point
point_at_of l i = let at = point_numbers_of * i in point_of (get_or l at nan) (get_or l (at + 1) nan) (get_or l (at + 2) nan)
