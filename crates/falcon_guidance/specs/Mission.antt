-- The waypoints: which are admissible, how a lent list is stored, and those of the active leg and the next.
use Rattle.std.specs.Prelude.{ℕ, zero, suc, ◌+◌, ◌-◌, ◌/◌, min, Bool, true, cond, ◌&&◌, List, eqb, length, get_or, replicate, Float}
use Rattle.std.specs.Float.{binary32}
use Rattle.std.specs.Float.Ieee.{sub, le}
use Rattle.std.specs.Float.Ieee.Scale.{finite}
use Rattle.relay_math.specs.Small.{f32}
use Rattle.falcon_state.specs.declared.point.Point.{Point}
use Rattle.falcon_state.specs.declared.config.Config.{Config}
use Rattle.falcon_state.specs.declared.mission.Mission.{Mission}
use Rattle.falcon_state.specs.declared.mission.Legs.{Legs}
use Rattle.falcon_state.specs.Point.{max_waypoints, point_numbers_of, origin}
use Rattle.falcon_state.specs.Point.{point_at_of}
use Rattle.falcon_guidance.specs.Geometry.{distance_of}
use Rattle.falcon_guidance.specs.Lent.{filled_of}

-- `MISSION_MIN_ALT_AGL_M` 1.0 and `MISSION_MAX_ALT_AGL_M` 120.0
abbrev pub mission_min_alt_agl_m : Float
mission_min_alt_agl_m = f32 0x3f80_0000

abbrev pub mission_max_alt_agl_m : Float
mission_max_alt_agl_m = f32 0x42f0_0000

-- `waypoint_admissible`: "finite, height `home[2] − z` from 1.0 to 120.0, horizontal distance at most the fence, ends included"
unfoldable pub waypoint_admissible_of : Config → Point → Bool
waypoint_admissible_of c p =
    let agl = sub binary32 c.home.z p.z in
    finite p.x && finite p.y && finite p.z && (le mission_min_alt_agl_m agl && le agl mission_max_alt_agl_m) && le (distance_of p c.home) c.fence_radius

-- "Only the first 16 points are tried and kept."
unfoldable pub tried_of : List Float → ℕ
tried_of l = min (length l / point_numbers_of) max_waypoints

-- the first n points of a lent list are all admissible
unfoldable pub all_admissible_of : Config → List Float → ℕ → Bool
all_admissible_of c l zero = true
all_admissible_of c l (suc n) = all_admissible_of c l n && waypoint_admissible_of c (point_at_of l n)

-- the places with no waypoint in use
abbrev pub no_points_of : List Point
no_points_of = replicate max_waypoints origin

-- the first n points of a lent list, each in its place, and the origin in every other
unfoldable pub stored_points_of : List Float → ℕ → List Point
stored_points_of l n = filled_of (point_at_of l) n no_points_of

-- `set_mission_waypoints` of an accepted list: the points tried, and the first leg
unfoldable pub loaded_of : List Float → Mission
loaded_of l = record { wp_count = tried_of l; wp_index = 0 }

unfoldable pub loaded_points_of : List Float → List Point
loaded_points_of l = stored_points_of l (tried_of l)

-- the waypoint in place i, the origin beyond the places
unfoldable pub waypoint_at_of : List Point → ℕ → Point
waypoint_at_of ps i = get_or ps i origin

-- the waypoint of leg i of so many, the last beyond them, home where there is none
unfoldable pub leg_waypoint_of : Config → List Point → ℕ → ℕ → Point
leg_waypoint_of c ps count i = cond (eqb count 0) c.home (waypoint_at_of ps (min i (count - 1)))

-- `current_waypoint`: the active leg's, home where there is none
unfoldable pub current_waypoint_of : Config → List Point → Mission → Point
current_waypoint_of c ps m = leg_waypoint_of c ps m.wp_count m.wp_index

-- all that a tick reads of the waypoints: the active leg's and the next one's
unfoldable pub legs_of : Config → List Point → Mission → Legs
legs_of c ps m = record { here = current_waypoint_of c ps m; next = leg_waypoint_of c ps m.wp_count (m.wp_index + 1) }
