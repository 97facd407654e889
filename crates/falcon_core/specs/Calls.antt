-- The calls: what each asks, which refusal fits, the state after it and its answer.
use Rattle.std.specs.Prelude.{◌%◌, Bool, true, false, cond, not, ◌&&◌, ◌||◌, List, eqb, leb, length, Float, Option, Some, None, is_none, Result, Ok, Err}
use Rattle.std.specs.Option.{option_or, option_map_or}
use Rattle.relay_math.specs.Small.{f32_zero}
use Rattle.relay_fsm.specs.declared.Event.{Event}
use Rattle.relay_fsm.specs.declared.Mode.{Mode}
use Rattle.relay_fsm.specs.declared.Gates.{Gates}
use Rattle.relay_fsm.specs.Fsm.{on_of}
use Rattle.relay_preflight.specs.Table.{mask_limit}
use Rattle.relay_preflight.specs.Verdict.{first_blocker_of}
use Rattle.falcon_state.specs.declared.config.OpeningKind.TheVariants.{Ground}
use Rattle.falcon_state.specs.declared.flight.Opening.{Opening}
use Rattle.falcon_state.specs.declared.tick.Tick.{Tick}
use Rattle.falcon_state.specs.declared.point.Point.{Point}
use Rattle.falcon_state.specs.declared.mission.Legs.{Legs}
use Rattle.falcon_state.specs.declared.flight.FlightSupervisor.{FlightSupervisor}
use Rattle.falcon_state.specs.Flight.{opened_of}
use Rattle.falcon_state.specs.Point.{origin, point_numbers_of}
use Rattle.falcon_state.specs.Zone.{zone_numbers_of}
use Rattle.falcon_guidance.specs.Mission.{no_points_of, tried_of, all_admissible_of, loaded_of, loaded_points_of, legs_of}
use Rattle.falcon_guidance.specs.Zones.{loaded_zones_of}
use Rattle.falcon_events.specs.Failsafe.{report_of}
use Rattle.falcon_tick.specs.Tick.{tick_of}
use Rattle.falcon_totals.specs.declared.DayTotals.{DayTotals}
use Rattle.falcon_totals.specs.Totals.{no_totals, counted_of}
use Rattle.falcon_core.specs.declared.refusal.Refusal.{Refusal}
use Rattle.falcon_core.specs.declared.refusal.Refusal.TheVariants.{WrongCount, OutOfRange, NoOpening, ReportDue, NoReportDue, Inadmissible}
use Rattle.falcon_core.specs.declared.answer.Output.{Output}
use Rattle.falcon_core.specs.declared.answer.Output.TheVariants.{Nothing, Ticks, Totals, Record}
use Rattle.falcon_core.specs.declared.supervisor.Supervisor.{Supervisor}
use Rattle.falcon_core.specs.declared.supervisor.Answered.{Answered}
use Rattle.falcon_core.specs.Answer.{answer_of, report_due_after}

-- the state with no opening: of an opening of zeros. No answer shows more of it than mode 0, no check outstanding and no blocker
unfoldable pub unopened : Supervisor
unopened =
    let zeros : Opening =
    record {
      home = origin;
      fence_radius = f32_zero;
      cruise_alt = f32_zero;
      low_batt_v = f32_zero;
      required = 0;
      passed = 0;
      calibration_configured = false;
      opening_kind = Ground;
    } in
    record { flight = opened_of zeros; waypoints = no_points_of; opened = false; report_due = false; totals = no_totals }

-- what the planner asks between ticks: points (three numbers each), zones (four numbers each), the day totals or the state itself. It leaves the mode,
-- the battery, the counts and the configuration as they are
pub data Planning : Type 0 where
  points : List Float → Planning
  zones : List Float → Planning
  totals : Planning
  saves : Planning

-- what a call asks: an opening, a tick, a report (failed), a command (event, level, low throttle) or what the planner asks
pub data Request : Type 0 where
  opens : Opening → Request
  ticks : Tick → Request
  reports : Bool → Request
  commands : Event → Bool → Bool → Request
  plans : Planning → Request

-- an opening is taken before any other call, and while a report is due
abbrev pub is_opening : Request → Bool
is_opening (opens o) = true
is_opening r = false

abbrev pub is_report : Request → Bool
is_report (reports failed) = true
is_report r = false

-- 4: "lent points not 3 each, zones not 4 each"
abbrev pub miscounted : Request → Bool
miscounted (plans (points l)) = not (eqb (length l % point_numbers_of) 0)
miscounted (plans (zones l)) = not (eqb (length l % zone_numbers_of) 0)
miscounted r = false

-- 5: "mask of 2^21 or more"
abbrev pub masks_too_large : Request → Bool
masks_too_large (opens o) = leb mask_limit o.required || leb mask_limit o.passed
masks_too_large r = false

-- 8: "a tried point inadmissible"
abbrev pub point_refused : FlightSupervisor → Request → Bool
point_refused f (plans (points l)) = not (all_admissible_of f.config l (tried_of l))
point_refused f r = false

-- a refusal where its test holds
abbrev pub refused_where : Bool → Refusal → Option Refusal
refused_where test refusal = cond test (Some refusal) None

-- 4 and 5, which need no state. "They are tried in this order": a refusal, and where there is none the next
unfoldable pub shape_refusal : Request → Option Refusal
shape_refusal r = option_or (refused_where (miscounted r) WrongCount) (refused_where (masks_too_large r) OutOfRange)

-- 1, 6 and 7, of a call that is no opening: by whether there was an opening, whether a report is due, and whether the call is a report
unfoldable pub sequence_refusal_of : Bool → Bool → Bool → Option Refusal
sequence_refusal_of opened due report =
    option_or (refused_where (not opened) NoOpening)
    (option_or (refused_where (due && not report) ReportDue) (refused_where (report && not due) NoReportDue))

-- 1, 6, 7 and 8, which need the state: an opening is taken at any time
unfoldable pub state_refusal : Supervisor → Request → Option Refusal
state_refusal s r =
    option_or (cond (is_opening r) None (sequence_refusal_of s.opened s.report_due (is_report r))) (refused_where (point_refused s.flight r) Inadmissible)

-- the refusal that fits, in the table's order: 4, 5, 1, 6, 7, 8; none where none does
unfoldable pub refusal_of : Supervisor → Request → Option Refusal
refusal_of s r = option_or (shape_refusal r) (state_refusal s r)

-- `command`: the check table is the gate for arming, and a position is had
unfoldable pub command_of : FlightSupervisor → Event → Bool → Bool → FlightSupervisor
command_of f ev level low =
    let gates : Gates =
    record { level = level; throttle_low = low; have_position = true; prearm_ok = is_none (first_blocker_of f.check_table) } in
    record f { fsm = record { mode = on_of f.fsm.mode ev gates } }

-- the flight after what the planner asks
unfoldable pub planned_of : FlightSupervisor → Planning → FlightSupervisor
planned_of f (points l) = record f { mission = loaded_of l }
planned_of f (zones l) = record f { zones = loaded_zones_of l }
planned_of f p = f

-- the waypoints of the active leg and of the next: all that a tick reads of the list
abbrev pub legs_in : Supervisor → Legs
legs_in s = legs_of s.flight.config s.waypoints s.flight.mission

-- the flight after an accepted call
unfoldable pub flight_after : FlightSupervisor → Legs → Request → FlightSupervisor
flight_after f l (opens o) = opened_of o
flight_after f l (ticks t) = (tick_of f l t).flight
flight_after f l (reports failed) = report_of f failed
flight_after f l (commands ev level low) = command_of f ev level low
flight_after f l (plans p) = planned_of f p

-- the waypoints after an accepted call
unfoldable pub waypoints_after : List Point → Request → List Point
waypoints_after ps (opens o) = no_points_of
waypoints_after ps (plans (points l)) = loaded_points_of l
waypoints_after ps r = ps

-- what an accepted call answers beside the mode and the checks
unfoldable pub output_of : FlightSupervisor → Legs → Request → Output
output_of f l (ticks t) = Ticks (tick_of f l t).answer
output_of f l (plans totals) = Totals
output_of f l (plans saves) = Record
output_of f l r = Nothing

-- the day totals after an accepted call that began and ended in these modes; U1: "Totals start at zero with the opening"
unfoldable pub totals_after : DayTotals → Mode → Mode → Request → DayTotals
totals_after t began ended (opens o) = no_totals
totals_after t began ended (ticks x) = counted_of t true began ended
totals_after t began ended (reports failed) = counted_of t false began ended
totals_after t began ended (commands ev level low) = counted_of t false began ended
totals_after t began ended (plans p) = t

-- the state after an accepted call
unfoldable pub after_of : Supervisor → Request → Supervisor
after_of s r =
    record {
      flight = flight_after s.flight (legs_in s) r;
      waypoints = waypoints_after s.waypoints r;
      opened = is_opening r || s.opened;
      report_due = report_due_after (output_of s.flight (legs_in s) r);
      totals = totals_after s.totals s.flight.fsm.mode (flight_after s.flight (legs_in s) r).fsm.mode r;
    }

-- "A refusal keeps the state"
unfoldable pub refused_of : Supervisor → Refusal → Answered
refused_of s refusal = record { supervisor = s; answer = answer_of s.flight (Err refusal) }

unfoldable pub accepted_of : Supervisor → Output → Answered
accepted_of s out = record { supervisor = s; answer = answer_of s.flight (Ok out) }

-- a call: refused with the first refusal that fits, else accepted
unfoldable pub step_of : Supervisor → Request → Answered
step_of s r = option_map_or (refused_of s) (refusal_of s r) (accepted_of (after_of s r) (output_of s.flight (legs_in s) r))

-- a call from this state that is refused, or leaves a state and answers this
abbrev pub settled_of : Supervisor → Result (Supervisor × Output) Refusal → Answered
settled_of before (Ok after) = accepted_of after.0 after.1
settled_of before (Err refusal) = refused_of before refusal

-- a list from this state that is refused, or else stored
abbrev pub taken_of : Supervisor → Planning → Result Unit Refusal → Answered
taken_of s p (Ok u) = accepted_of (record s { flight = planned_of s.flight p; waypoints = waypoints_after s.waypoints (plans p) }) Nothing
taken_of s p (Err refusal) = refused_of s refusal
