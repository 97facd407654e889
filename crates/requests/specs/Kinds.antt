-- The sheet's kinds of lines: what the numbers of a line ask, or the refusal 3, 4 or 5 that fits them whatever the state.
use Rattle.std.specs.Prelude.{ℕ, ◌+◌, ◌*◌, ◌≤◌, ◌≡◌, Bool, cond, ◌&&◌, ◌||◌, List, map, eqb, leb, ltb, length, take, drop, Float, Option, Some, None, Result, Ok, Err, IfOk}
use Rattle.std.specs.Float.{binary32}
use Rattle.std.specs.Float.Ieee.{of_bits}
use Rattle.relay_fsm.specs.declared.Event.{Event}
use Rattle.relay_fsm.specs.Event.{event_at}
use Rattle.relay_batt.specs.declared.battery.Reading.{Reading}
use Rattle.relay_batt.specs.declared.battery.Reading.TheVariants.{Nothing, Volts, VoltsAmps}
use Rattle.falcon_state.specs.declared.config.OpeningKind.{OpeningKind}
use Rattle.falcon_state.specs.declared.config.OpeningKind.TheVariants.{Ground, Raised}
use Rattle.falcon_state.specs.Config.{opening_number}
use Rattle.falcon_state.specs.declared.flight.Opening.{Opening}
use Rattle.falcon_state.specs.declared.tick.Tick.{Tick}
use Rattle.falcon_core.specs.declared.supervisor.Supervisor.{Supervisor}
use Rattle.falcon_core.specs.declared.supervisor.Answered.{Answered}
use Rattle.falcon_core.specs.declared.refusal.Refusal.{Refusal}
use Rattle.falcon_core.specs.declared.refusal.Refusal.TheVariants.{UnknownKind, WrongCount, OutOfRange}
use Rattle.requests.specs.declared.kinds.Kind.{Kind}
use Rattle.requests.specs.declared.kinds.Kind.TheVariants.{Opening as OpeningLine, Tick as TickKind, Report as ReportKind, Command as CommandKind, Points as PointsKind, Zones as ZonesKind, Totals as TotalsKind, Saves as SavesKind}
use Rattle.requests.specs.declared.kinds.LineCall.{LineCall}
use Rattle.requests.specs.declared.kinds.LineCall.TheVariants.{Flight, Other}
use Rattle.requests.specs.declared.kinds.FlightCall.{FlightCall}
use Rattle.requests.specs.declared.kinds.FlightCall.TheVariants.{Ticks, Reports, Commands}
use Rattle.requests.specs.declared.kinds.OtherCall.{OtherCall}
use Rattle.requests.specs.declared.kinds.OtherCall.TheVariants.{Opens, Points, Zones, Totals, Saves}
use Rattle.falcon_state.specs.Point.{point_numbers_of}
use Rattle.falcon_state.specs.Zone.{zone_numbers_of}
use Rattle.falcon_core.specs.Calls.{Request, opens, ticks, reports, commands, plans, points, zones, totals, saves, refused_of, step_of, Planning}
use Rattle.relay_math.specs.Small.{number_at, float_at, flag_at}
use Rattle.falcon_record.specs.From.{point_from_of}

-- what a line asks, or the refusal that fits it whatever the state
abbrev pub Asked : Type 0
Asked = Result Request Refusal

-- the answer to what a line asks
abbrev pub asked_step : Supervisor → Asked → Answered
asked_step s (Err e) = refused_of s e
asked_step s (Ok r) = step_of s r

-- "flag above 1"
abbrev pub is_flag_of : List ℕ → ℕ → Bool
is_flag_of ns k = leb (number_at ns k) 1

-- a line of so many fields in range, or 4, or 5
abbrev pub fielded : List ℕ → ℕ → Bool → Asked → Asked
fielded ns count ranges asked = cond (eqb (length ns) count) (cond ranges asked (Err OutOfRange)) (Err WrongCount)

-- "1 opening: home (three), fence, cruise, L, required, passed, calibration flag." U5: "Opening kind 10 has the fields of kind 1"
unfoldable pub opening_from_of : OpeningKind → List ℕ → Opening
opening_from_of kind ns =
    record {
      home = point_from_of ns 1;
      fence_radius = float_at ns 4;
      cruise_alt = float_at ns 5;
      low_batt_v = float_at ns 6;
      required = number_at ns 7;
      passed = number_at ns 8;
      calibration_configured = flag_at ns 9;
      opening_kind = kind;
    }

unfoldable pub opening_line_of : OpeningKind → List ℕ → Asked
opening_line_of kind ns = fielded ns 10 (is_flag_of ns 9) (Ok (opens (opening_from_of kind ns)))

-- "battery 0 none, 1 volts, 2 volts with amps"
unfoldable pub reading_from_of : List ℕ → Reading
reading_from_of ns =
    cond (eqb (number_at ns 15) 0) Nothing (cond (eqb (number_at ns 15) 1) (Volts (float_at ns 16)) (VoltsAmps (float_at ns 16) (float_at ns 17)))

-- "battery above 2", and "absent volts or amps not 0"
unfoldable pub battery_ok_of : List ℕ → Bool
battery_ok_of ns =
    leb (number_at ns 15) 2
    && (ltb 0 (number_at ns 15) || eqb (number_at ns 16) 0)
    && (ltb 1 (number_at ns 15) || eqb (number_at ns 17) 0)

-- "2 tick: dt, p (three), v (three), tilt, uncertainty, motor; flags nav compromised, gnss diverged, failed, rpm;
-- battery 0 none, 1 volts, 2 volts with amps; volts, amps (0 where absent)."
unfoldable pub tick_from_of : List ℕ → Tick
tick_from_of ns =
    record {
      dt = float_at ns 1;
      p = point_from_of ns 2;
      v = point_from_of ns 5;
      tilt = float_at ns 8;
      tilt_uncertainty = float_at ns 9;
      max_motor = float_at ns 10;
      nav_compromised = flag_at ns 11;
      gnss_diverged = flag_at ns 12;
      failed_motor = flag_at ns 13;
      motor_rpm = flag_at ns 14;
      reading = reading_from_of ns;
    }

unfoldable pub tick_ok_of : List ℕ → Bool
tick_ok_of ns = is_flag_of ns 11 && is_flag_of ns 12 && is_flag_of ns 13 && is_flag_of ns 14 && battery_ok_of ns

unfoldable pub tick_line_of : List ℕ → Asked
tick_line_of ns = fielded ns 18 (tick_ok_of ns) (Ok (ticks (tick_from_of ns)))

-- "3 report: failed flag."
unfoldable pub report_line_of : List ℕ → Asked
report_line_of ns = fielded ns 2 (is_flag_of ns 1) (Ok (reports (flag_at ns 1)))

-- "event above 11"
abbrev pub command_with : Option Event → Bool → Bool → Asked
command_with (Some ev) level low = Ok (commands ev level low)
command_with None level low = Err OutOfRange

-- "4 command: event, level, low throttle."
unfoldable pub command_line_of : List ℕ → Asked
command_line_of ns =
    fielded ns 4 (is_flag_of ns 2 && is_flag_of ns 3) (command_with (event_at (number_at ns 1)) (flag_at ns 2) (flag_at ns 3))

-- the kind and n, which stand before the points or zones of a line
abbrev pub list_head : ℕ
list_head = 2

-- "n, then 3 each" or "4 each": the fields of a line of points or zones
abbrev pub list_fields : ℕ → List ℕ → ℕ
list_fields width ns = list_head + width * number_at ns 1

-- a line of points or zones has just these
abbrev pub is_list_of : ℕ → List ℕ → Bool
is_list_of width ns = eqb (length ns) (list_fields width ns)

-- its floats
abbrev pub list_floats_of : List ℕ → List Float
list_floats_of ns = map (of_bits binary32) (drop list_head ns)

-- a line of points or zones, or 4
abbrev pub list_line_of : ℕ → (List Float → Planning) → List ℕ → Asked
list_line_of width list ns = cond (is_list_of width ns) (Ok (plans (list (list_floats_of ns)))) (Err WrongCount)

-- "5 points: n, then 3 each."
unfoldable pub points_line_of : List ℕ → Asked
points_line_of ns = list_line_of point_numbers_of points ns

-- "6 zones: n, then 4 each."
unfoldable pub zones_line_of : List ℕ → Asked
zones_line_of ns = list_line_of zone_numbers_of zones ns

-- U1: "Line kind 7, with no further field"
abbrev pub totals_kind : ℕ
totals_kind = 7

-- U2: "Line kind 8, alone"
abbrev pub saves_kind : ℕ
saves_kind = 8

-- the kind is the only field
unfoldable pub alone_line_of : List ℕ → Asked → Asked
alone_line_of ns asked = cond (eqb (length ns) 1) asked (Err WrongCount)

-- "The first field is the kind": the kind with a number. 9 has none: no line of it is taken
unfoldable pub kind_at : ℕ → Option Kind
kind_at n =
    cond (eqb n (opening_number Ground)) (Some (OpeningLine Ground))
    (cond (eqb n 2) (Some TickKind)
    (cond (eqb n 3) (Some ReportKind)
    (cond (eqb n 4) (Some CommandKind)
    (cond (eqb n 5) (Some PointsKind)
    (cond (eqb n 6) (Some ZonesKind)
    (cond (eqb n totals_kind) (Some TotalsKind)
    (cond (eqb n saves_kind) (Some SavesKind)
    (cond (eqb n (opening_number Raised)) (Some (OpeningLine Raised)) None))))))))

-- what the numbers of a line of this kind ask
abbrev pub kind_line_of : Option Kind → List ℕ → Asked
kind_line_of (Some (OpeningLine kind)) ns = opening_line_of kind ns
kind_line_of (Some TickKind) ns = tick_line_of ns
kind_line_of (Some ReportKind) ns = report_line_of ns
kind_line_of (Some CommandKind) ns = command_line_of ns
kind_line_of (Some PointsKind) ns = points_line_of ns
kind_line_of (Some ZonesKind) ns = zones_line_of ns
kind_line_of (Some TotalsKind) ns = alone_line_of ns (Ok (plans totals))
kind_line_of (Some SavesKind) ns = alone_line_of ns (Ok (plans saves))
kind_line_of None ns = Err UnknownKind

-- what the numbers of a line ask
unfoldable pub numbers_ask : List ℕ → Asked
numbers_ask ns = kind_line_of (kind_at (number_at ns 0)) ns

-- the numbers of a line of points or zones, which are the first of these
abbrev pub list_numbers : ℕ → List ℕ → List ℕ
list_numbers width ns = take (list_fields width ns) ns

-- what a tick, a report or a command asks
abbrev pub flight_asks : FlightCall → Request
flight_asks (Ticks t) = ticks t
flight_asks (Reports failed) = reports failed
flight_asks (Commands ev level low) = commands ev level low

-- what any other line asks, its numbers being the first of these
abbrev pub other_asks : List ℕ → OtherCall → Request
other_asks ns (Opens o) = opens o
other_asks ns Points = plans (points (list_floats_of (list_numbers point_numbers_of ns)))
other_asks ns Zones = plans (zones (list_floats_of (list_numbers zone_numbers_of ns)))
other_asks ns Totals = plans totals
other_asks ns Saves = plans saves

-- what each case of `LineCall` asks
abbrev pub line_call_asks : List ℕ → LineCall → Request
line_call_asks ns (Flight call) = flight_asks call
line_call_asks ns (Other call) = other_asks ns call

-- what the answer of a function that reads a line asks
abbrev pub result_asks : List ℕ → Result LineCall Refusal → Asked
result_asks ns (Ok call) = Ok (line_call_asks ns call)
result_asks ns (Err e) = Err e

-- the points or zones of a line are among these numbers
abbrev pub Listed : OtherCall → List ℕ → Type 0
Listed (Opens o) ns = Unit
Listed Points ns = list_fields point_numbers_of ns ≤ length ns
Listed Zones ns = list_fields zone_numbers_of ns ≤ length ns
Listed Totals ns = Unit
Listed Saves ns = Unit

abbrev pub CallListed : LineCall → List ℕ → Type 0
CallListed (Flight call) ns = Unit
CallListed (Other call) ns = Listed call ns

-- a function that reads a line answers so where this is asked, and the points or zones asked for are all among the line's numbers
abbrev pub Asks : Result LineCall Refusal → List ℕ → Asked → Type 0
Asks answer ns asked = (result_asks ns answer ≡ asked) × IfOk answer (λ call. CallListed call ns)
