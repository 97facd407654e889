-- The milestone paragraph of `step`: altitude, home and ground reached, and the mission's legs.
use Rattle.std.specs.Prelude.{ℕ, ◌+◌, Bool, cond, ◌&&◌, ltb, Float, Option, Some, None}
use Rattle.std.specs.Float.{binary32}
use Rattle.std.specs.Float.Ieee.{sub, lt}
use Rattle.relay_math.specs.Small.{f32}
use Rattle.relay_fsm.specs.declared.Mode.{Mode}
use Rattle.relay_fsm.specs.declared.Mode.TheVariants.{Takeoff, Mission, Land, Rtl}
use Rattle.relay_fsm.specs.declared.Event.{Event}
use Rattle.relay_fsm.specs.declared.Event.TheVariants.{ReachedAltitude, ReachedHome, Touchdown, RequestRtl}
use Rattle.relay_fsm.specs.Mode.{is_mode}
use Rattle.falcon_state.specs.declared.point.Point.{Point}
use Rattle.falcon_state.specs.declared.config.Config.{Config}
use Rattle.falcon_state.specs.declared.mission.Mission.{Mission as MissionState}
use Rattle.falcon_guidance.specs.Geometry.{distance3_of}
use Rattle.falcon_events.specs.Failsafe.{mode_after}
use Rattle.falcon_events.specs.declared.milestone.Reached.{Reached}

-- the limits 0.2, 0.4 and 0.15 of `step`, and `WAYPOINT_RADIUS` 1.2
abbrev pub altitude_margin : Float
altitude_margin = f32 0x3e4c_cccd

abbrev pub home_radius : Float
home_radius = f32 0x3ecc_cccd

abbrev pub touchdown_alt : Float
touchdown_alt = f32 0x3e19_999a

abbrev pub waypoint_radius : Float
waypoint_radius = f32 0x3f99_999a

-- `alt_agl` is above the cruise height less 0.2
unfoldable pub high_of : Config → Float → Bool
high_of c alt_agl = lt (sub binary32 c.cruise_alt altitude_margin) alt_agl

-- `dist_home` is below 0.4
unfoldable pub near_home_of : Float → Bool
near_home_of dist_home = lt dist_home home_radius

-- `alt_agl` is below 0.15
unfoldable pub near_ground_of : Float → Bool
near_ground_of alt_agl = lt alt_agl touchdown_alt

-- the active leg's waypoint is nearer than 1.2
unfoldable pub arrived_of : Point → Point → Bool
arrived_of here p = lt (distance3_of p here) waypoint_radius

-- a further leg follows the active one
abbrev pub more_of : MissionState → Bool
more_of s = ltb (s.wp_index + 1) s.wp_count

-- what the milestone of the mode gives the mode machine
abbrev pub milestone_event : Mode → Bool → Bool → Bool → Bool → Bool → Option Event
milestone_event Takeoff high home low arrived more = cond high (Some ReachedAltitude) None
milestone_event Rtl high home low arrived more = cond home (Some ReachedHome) None
milestone_event Land high home low arrived more = cond low (Some Touchdown) None
milestone_event Mission high home low arrived more = cond arrived (cond more None (Some RequestRtl)) None
milestone_event m high home low arrived more = None

unfoldable pub milestone_gives : Mode → Config → MissionState → Point → Float → Float → Point → Option Event
milestone_gives m c s here dist_home alt_agl p =
    milestone_event m (high_of c alt_agl) (near_home_of dist_home) (near_ground_of alt_agl) (arrived_of here p) (more_of s)

-- the leg: one further in Mission where the waypoint is reached and another follows
abbrev pub leg_of : Mode → Bool → MissionState → ℕ
leg_of m arrived s = cond (is_mode m Mission && arrived && more_of s) (s.wp_index + 1) s.wp_index

-- what the milestone changes: the mode and the leg
unfoldable pub milestone_of : Mode → Config → MissionState → Point → Float → Float → Point → Reached
milestone_of m c s here dist_home alt_agl p =
    record { mode = mode_after m (milestone_gives m c s here dist_home alt_agl p); wp_index = leg_of m (arrived_of here p) s }
