-- The waypoints of the active leg and of the next, by their places in the list.
use Rattle.std.specs.Prelude.{ℕ, ◌+◌, ◌-◌, min, cond, eqb, ltb}
use Rattle.falcon_state.specs.declared.point.Point.{Point}
use Rattle.falcon_state.specs.declared.config.Config.{Config}
use Rattle.falcon_state.specs.declared.mission.Mission.{Mission}
use Rattle.falcon_state.specs.declared.mission.Legs.{Legs}
use Rattle.falcon_state.specs.Point.{max_waypoints, origin}

-- the active leg and the one after it, each at most the last
abbrev pub here_leg_of : Mission → ℕ
here_leg_of m = min m.wp_index (m.wp_count - 1)

abbrev pub next_leg_of : Mission → ℕ
next_leg_of m = min (m.wp_index + 1) (m.wp_count - 1)

-- the place of a leg's waypoint, the first where the leg is beyond the places
unfoldable pub place_of : ℕ → ℕ
place_of leg = cond (ltb leg max_waypoints) leg 0

-- the waypoint of a leg whose place holds this point; the origin where the leg is beyond the places
unfoldable pub waypoint_in_place : ℕ → Point → Point
waypoint_in_place leg point = cond (ltb leg max_waypoints) point origin

-- the waypoints of the active leg and of the next, whose places hold these points; home where there is none
unfoldable pub legs_from_of : Config → Mission → Point → Point → Legs
legs_from_of c m here next =
    record {
      here = cond (eqb m.wp_count 0) c.home (waypoint_in_place (here_leg_of m) here);
      next = cond (eqb m.wp_count 0) c.home (waypoint_in_place (next_leg_of m) next);
    }
