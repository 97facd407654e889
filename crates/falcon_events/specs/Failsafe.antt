-- The failsafe paragraphs of `step`, breach, attitude runaway, high wind and the report of a failed motor: which event each gives the mode machine.
use Rattle.std.specs.Prelude.{ℕ, Bool, true, false, cond, not, ◌&&◌, ◌||◌, ltb, leb, Float, Option, Some, None, is_some}
use Rattle.std.specs.Float.Ieee.{lt, le}
use Rattle.relay_math.specs.Small.{f32, saturating_add_of}
use Rattle.relay_fsm.specs.declared.Mode.{Mode}
use Rattle.relay_fsm.specs.declared.Mode.TheVariants.{Disarmed, Land}
use Rattle.relay_fsm.specs.declared.Event.{Event}
use Rattle.relay_fsm.specs.declared.Event.TheVariants.{Failsafe, Terminate}
use Rattle.relay_fsm.specs.declared.Gates.{Gates}
use Rattle.relay_fsm.specs.Mode.{is_mode, is_airborne_of, rank_of}
use Rattle.relay_fsm.specs.Fsm.{on_of}
use Rattle.relay_batt.specs.Battery.{lost_of}
use Rattle.relay_batt.specs.declared.battery.Battery.{Battery}
use Rattle.falcon_state.specs.declared.tick.Tick.{Tick}
use Rattle.falcon_state.specs.declared.flight.FlightSupervisor.{FlightSupervisor}
use Rattle.falcon_events.specs.declared.failsafe.FailsafeState.{FailsafeState}

-- the gates that `step` hands over: all hold
abbrev pub in_flight_of : Gates
in_flight_of = record { level = true; throttle_low = true; have_position = true; prearm_ok = true }

-- the gates of the report, which alone is without a position
abbrev pub without_position_of : Gates
without_position_of = record { level = true; throttle_low = true; have_position = false; prearm_ok = true }

-- the mode after an event that is given at these gates, if any
abbrev pub mode_given_of : Mode → Option Event → Gates → Mode
mode_given_of m None g = m
mode_given_of m (Some e) g = on_of m e g

-- the mode after the event that a paragraph of `step` gives the mode machine, if any
abbrev pub mode_after : Mode → Option Event → Mode
mode_after m e = mode_given_of m e in_flight_of

-- "latch cleared if Disarmed": a failsafe long past is no reason to refuse arming
abbrev pub cleared_of : Mode → Bool → Bool
cleared_of m latched = not (is_mode m Disarmed) && latched

-- a `Failsafe` given to the mode machine sets the latch
abbrev pub failsafe_given_of : FailsafeState → Option Event → FailsafeState
failsafe_given_of s e = record s { mode = mode_after s.mode e; rtl_latched = is_some e || s.rtl_latched }

-- "Breach: outside the fence, low, critical, or silence strictly above 1.0 s after one reading"
abbrev pub breach_of : Battery → Bool → Bool
breach_of b outside = outside || (b.state.low || b.state.critical || lost_of b)

-- "the rank wanted (3 critical, else 2)": a critical pack must reach Land even from Rtl
abbrev pub wanted_rank : Bool → ℕ
wanted_rank critical = cond critical 3 2

-- "Failsafe only if the rank wanted (3 critical, else 2) exceeds the present one": a breach lasts, and given again it would turn a return into a landing
abbrev pub breach_fails : Mode → Bool → Bool → Bool
breach_fails m breach critical = is_airborne_of m && ltb (rank_of m) (wanted_rank critical) && breach

abbrev pub breach_event : Mode → Bool → Bool → Option Event
breach_event m breach critical = cond (breach_fails m breach critical) (Some Failsafe) None

unfoldable pub breach_gives : FailsafeState → Battery → Bool → Option Event
breach_gives s b outside = breach_event s.mode (breach_of b outside) b.state.critical

-- the breach paragraph, with the battery after this tick's reading
unfoldable pub breached_of : FailsafeState → Battery → Bool → FailsafeState
breached_of s b outside = failsafe_given_of s (breach_gives s b outside)

-- `TILT_RUNAWAY_LIMIT` 1.05 and `TILT_RUNAWAY_CYCLES` 50
abbrev pub tilt_runaway_limit : Float
tilt_runaway_limit = f32 0x3f86_6666

abbrev pub tilt_runaway_cycles : ℕ
tilt_runaway_cycles = 50

-- "tilt strictly above 1.05"; a NaN is not
unfoldable pub tilted_of : Tick → Bool
tilted_of t = lt tilt_runaway_limit t.tilt

-- ticks in a row airborne and tilted
abbrev pub runaway_count_of : Mode → Bool → ℕ → ℕ
runaway_count_of m tilted n = cond (is_airborne_of m && tilted) (saturating_add_of n 1) 0

-- "Terminate on the 50th tick in a row airborne with tilt strictly above 1.05"
unfoldable pub runaway_enough : ℕ → Bool
runaway_enough n = leb tilt_runaway_cycles n

abbrev pub runaway_event : Mode → Bool → Bool → Option Event
runaway_event m tilted enough = cond (is_airborne_of m && tilted && enough) (Some Terminate) None

unfoldable pub runaway_counted : FailsafeState → Tick → ℕ
runaway_counted s t = runaway_count_of s.mode (tilted_of t) s.counts.runaway_count

unfoldable pub runaway_gives : FailsafeState → Tick → Option Event
runaway_gives s t = runaway_event s.mode (tilted_of t) (runaway_enough (runaway_counted s t))

-- the runaway paragraph
unfoldable pub runaway_of : FailsafeState → Tick → FailsafeState
runaway_of s t = record s { mode = mode_after s.mode (runaway_gives s t); counts = record s.counts { runaway_count = runaway_counted s t } }

-- `WIND_SAT_THRESHOLD` 0.95, `WIND_TILT_MIN` 0.30, `WIND_TILT_CEIL` 0.70 and `WIND_CYCLES` 125
abbrev pub wind_sat_threshold : Float
wind_sat_threshold = f32 0x3f73_3333

abbrev pub wind_tilt_min : Float
wind_tilt_min = f32 0x3e99_999a

abbrev pub wind_tilt_ceil : Float
wind_tilt_ceil = f32 0x3f33_3333

abbrev pub wind_cycles : ℕ
wind_cycles = 125

-- "motor at least 0.95, tilt 0.30..0.70 with both ends": the vehicle leans hard into the wind and does not tumble
unfoldable pub gusty_of : Tick → Bool
gusty_of t = le wind_sat_threshold t.max_motor && (le wind_tilt_min t.tilt && le t.tilt wind_tilt_ceil)

-- airborne, "not in Land", and gusty
abbrev pub windy_of : Mode → Bool → Bool
windy_of m gusty = is_airborne_of m && not (is_mode m Land) && gusty

unfoldable pub wind_enough : ℕ → Bool
wind_enough n = leb wind_cycles n

-- "from the 125th on Failsafe and latch, only where the rank is below 2"
abbrev pub wind_event : Mode → Bool → Bool → Option Event
wind_event m gusty enough = cond (windy_of m gusty && (enough && ltb (rank_of m) 2)) (Some Failsafe) None

-- windy ticks in a row
unfoldable pub wind_counted : FailsafeState → Tick → ℕ
wind_counted s t = cond (windy_of s.mode (gusty_of t)) (saturating_add_of s.counts.wind_count 1) 0

unfoldable pub wind_gives : FailsafeState → Tick → Option Event
wind_gives s t = wind_event s.mode (gusty_of t) (wind_enough (wind_counted s t))

-- the wind paragraph
unfoldable pub wind_of : FailsafeState → Tick → FailsafeState
wind_of s t = failsafe_given_of (record s { counts = record s.counts { wind_count = wind_counted s t } }) (wind_gives s t)

-- "A failed motor in Takeoff, Loiter, Mission or Rtl": airborne and not in Land
abbrev pub motor_lost_of : Mode → Bool → Bool
motor_lost_of m failed = is_airborne_of m && not (is_mode m Land) && failed

abbrev pub report_event : Mode → Bool → Option Event
report_event m failed = cond (motor_lost_of m failed) (Some Failsafe) None

-- the report: "leads to Land and sets the latch", since with three rotors there is no yaw to return by
unfoldable pub report_of : FlightSupervisor → Bool → FlightSupervisor
report_of f failed =
    record f {
      fsm = record { mode = mode_given_of f.fsm.mode (report_event f.fsm.mode failed) without_position_of };
      rtl_latched = motor_lost_of f.fsm.mode failed || f.rtl_latched;
    }
