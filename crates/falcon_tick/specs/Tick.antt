-- One tick: `step` without follow and clock, paragraph by paragraph, in the order "latch cleared if Disarmed; checks; battery; rpm; breach; runaway; wind;
-- mode; landing flag; hold; setpoint; `avoid`".
use Rattle.std.specs.Prelude.{Bool, cond, not, ◌&&◌, eqb, ltb, Float}
use Rattle.relay_preflight.specs.declared.CheckTable.{CheckTable}
use Rattle.relay_batt.specs.declared.battery.Battery.{Battery}
use Rattle.relay_batt.specs.Battery.{update_of}
use Rattle.falcon_state.specs.declared.point.Point.{Point}
use Rattle.falcon_state.specs.declared.tick.Tick.{Tick}
use Rattle.falcon_state.specs.declared.mission.Legs.{Legs}
use Rattle.falcon_state.specs.declared.hold.Hold.{Hold}
use Rattle.falcon_state.specs.declared.flight.FlightSupervisor.{FlightSupervisor}
use Rattle.falcon_guidance.specs.Geometry.{distance_of, height_of, outside_geofence_of}
use Rattle.falcon_guidance.specs.Hold.{held_of}
use Rattle.falcon_guidance.specs.Setpoint.{landing_of, setpoint_of, motors_off_of}
use Rattle.falcon_guidance.specs.Zones.{avoid_of}
use Rattle.falcon_events.specs.declared.failsafe.FailsafeState.{FailsafeState}
use Rattle.falcon_events.specs.declared.milestone.Reached.{Reached}
use Rattle.falcon_events.specs.Failsafe.{cleared_of, breached_of, runaway_of, wind_of}
use Rattle.falcon_events.specs.Milestone.{milestone_of}
use Rattle.falcon_tick.specs.declared.tick.TickAnswer.{TickAnswer}
use Rattle.falcon_tick.specs.declared.tick.TickAnswer.TheVariants.{MotorsOff, Setpoint}
use Rattle.falcon_tick.specs.declared.tick.Ticked.{Ticked}
use Rattle.falcon_tick.specs.Preflight.{update_preflight_of, esc_telemetry_of}

-- Of a flight, the waypoints of the active leg and of the next, and what the tick brings. First what several paragraphs read.
module _ (f : FlightSupervisor) (legs : Legs) (t : Tick) where
  -- `dist_home`
  abbrev pub dist_home : Float
  dist_home = distance_of t.p f.config.home

  -- `alt_agl`
  abbrev pub alt_agl : Float
  alt_agl = height_of f.config t.p

  -- `outside_geofence()`
  abbrev pub outside : Bool
  outside = outside_geofence_of f.config dist_home

  -- "latch cleared if Disarmed"
  abbrev pub rtl_latched : Bool
  rtl_latched = cleared_of f.fsm.mode f.rtl_latched

  -- "checks", "from the battery state BEFORE this tick's reading"
  abbrev pub checked : CheckTable
  checked = update_preflight_of f.check_table f.config f.battery rtl_latched outside t

  -- "battery"
  abbrev pub battery : Battery
  battery = update_of f.battery t.dt t.reading

  -- "rpm"
  abbrev pub check_table : CheckTable
  check_table = esc_telemetry_of checked t.motor_rpm

  -- what the failsafes find
  unfoldable pub before_breach : FailsafeState
  before_breach = record { mode = f.fsm.mode; counts = f.counts; rtl_latched = rtl_latched }

  -- "breach"
  unfoldable pub after_breach : FailsafeState
  after_breach = breached_of before_breach battery outside

  -- "runaway"
  unfoldable pub after_runaway : FailsafeState
  after_runaway = runaway_of after_breach t

  -- "wind"
  unfoldable pub after_wind : FailsafeState
  after_wind = wind_of after_runaway t

  -- "mode", and with it the leg
  unfoldable pub reached : Reached
  reached = milestone_of after_wind.mode f.config f.mission legs.here dist_home alt_agl t.p

  -- "landing flag"
  abbrev pub landing : Bool
  landing = landing_of reached.mode dist_home t

  -- "hold"
  abbrev pub hold : Hold
  hold = held_of f.hold reached.mode t

  -- the waypoint of the active leg: the next one's where the milestone moved it on
  abbrev pub waypoint : Point
  waypoint = cond (eqb f.mission.wp_index reached.wp_index) legs.here legs.next

  -- "setpoint": `sp`
  abbrev pub sp : Point
  sp = setpoint_of reached.mode f.config waypoint hold.hold_xy t

  -- "`avoid`", which is skipped while landing: the vehicle comes down where it is
  abbrev pub ned : Point
  ned = cond (ltb 0 f.zones.zone_count && not landing) (avoid_of f.zones t.p sp) sp

  -- the flight after it. Whether the motors are off is what the next tick rearms by
  unfoldable pub after_tick : FlightSupervisor
  after_tick =
      record {
        config = f.config;
        fsm = record { mode = reached.mode };
        battery = battery;
        mission = record f.mission { wp_index = reached.wp_index };
        zones = f.zones;
        hold = hold;
        counts = after_wind.counts;
        check_table = check_table;
        rtl_latched = after_wind.rtl_latched;
        motors_were_off = motors_off_of reached.mode;
      }

  -- "The answer is motors off, or a setpoint with landing and rearm flags."
  unfoldable pub answered : TickAnswer
  answered = cond (motors_off_of reached.mode) MotorsOff (Setpoint ned landing f.motors_were_off)

  -- the tick: the flight after it, and its answer
  unfoldable pub tick_of : Ticked
  tick_of = record { flight = after_tick; answer = answered }
