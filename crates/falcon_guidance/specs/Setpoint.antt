-- The landing flag, the setpoint of each mode, and the modes that command motors off.
use Rattle.std.specs.Prelude.{Bool, cond, ◌&&◌, ◌||◌, Float}
use Rattle.std.specs.Float.Ieee.{lt}
use Rattle.relay_math.specs.Small.{f32}
use Rattle.relay_fsm.specs.declared.Mode.{Mode}
use Rattle.relay_fsm.specs.declared.Mode.TheVariants.{Disarmed, Armed, Takeoff, Loiter, Mission, Land, Rtl, Terminated}
use Rattle.relay_fsm.specs.Mode.{is_mode}
use Rattle.falcon_state.specs.declared.point.Point.{Point}
use Rattle.falcon_state.specs.declared.point.Horizontal.{Horizontal}
use Rattle.falcon_state.specs.declared.config.Config.{Config}
use Rattle.falcon_state.specs.declared.tick.Tick.{Tick}
use Rattle.falcon_state.specs.Point.{point_of}
use Rattle.falcon_guidance.specs.Geometry.{pad_less_of}
use Rattle.falcon_guidance.specs.Hold.{horiz_speed_of}

-- the limits 0.4 and 0.5 of the landing flag
abbrev pub landing_speed : Float
landing_speed = f32 0x3ecc_cccd

abbrev pub landing_radius : Float
landing_radius = f32 0x3f00_0000

-- `landing`: in Land with a failed motor, which lands where it is, or slow and over home
abbrev pub landing_of : Mode → Float → Tick → Bool
landing_of m dist_home t = is_mode m Land && (t.failed_motor || lt (horiz_speed_of t) landing_speed && lt dist_home landing_radius)

-- a point at the cruise height: `-self.cruise_alt`, and U5: "at `home[2]` less the cruise height"
unfoldable pub cruise_over_of : Config → Float → Float → Point
cruise_over_of c x y = point_of x y (pad_less_of c.opening_kind c.home.z c.cruise_alt)

-- `mode → setpoint`, from the active leg's waypoint and the hold point; in the modes that command motors off it is moot
abbrev pub setpoint_of : Mode → Config → Point → Horizontal → Tick → Point
setpoint_of Takeoff c waypoint hold_xy t = cruise_over_of c hold_xy.x hold_xy.y
setpoint_of Loiter c waypoint hold_xy t = cruise_over_of c hold_xy.x hold_xy.y
setpoint_of Mission c waypoint hold_xy t = waypoint
setpoint_of Rtl c waypoint hold_xy t = cruise_over_of c c.home.x c.home.y
setpoint_of Land c waypoint hold_xy t = cond t.failed_motor (cruise_over_of c t.p.x t.p.y) (cruise_over_of c c.home.x c.home.y)
setpoint_of m c waypoint hold_xy t = t.p

-- the modes that command motors off
abbrev pub motors_off_of : Mode → Bool
motors_off_of m = is_mode m Disarmed || is_mode m Armed || is_mode m Terminated
