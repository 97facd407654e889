-- A tick, a report or a command: what it reads and leaves of the state, without the waypoints.
use Rattle.std.specs.Prelude.{Bool, MatchOption, Ok, Err, ◌≡◌}
use Rattle.std.specs.Option.{option_map_or}
use Rattle.falcon_state.specs.declared.mission.Legs.{Legs}
use Rattle.falcon_state.specs.declared.flight.FlightSupervisor.{FlightSupervisor}
use Rattle.falcon_state.specs.Point.{origin}
use Rattle.falcon_totals.specs.Totals.{counted_of}
use Rattle.falcon_core.specs.declared.refusal.Refusal.{Refusal}
use Rattle.falcon_core.specs.declared.answer.Output.{Output}
use Rattle.falcon_core.specs.declared.flown.Flown.{Flown}
use Rattle.falcon_core.specs.declared.flown.FlownAnswered.{FlownAnswered}
use Rattle.falcon_core.specs.declared.supervisor.Supervisor.{Supervisor}
use Rattle.falcon_core.specs.declared.supervisor.Answered.{Answered}
use Rattle.falcon_core.specs.Answer.{is_tick_of, report_due_after, answer_of}
use Rattle.falcon_core.specs.Calls.{Request, is_report, sequence_refusal_of, flight_after, output_of}

-- reports and commands read no waypoint
abbrev pub no_legs : Legs
no_legs = record { here = origin; next = origin }

-- what a state has of it, and the state with that for its own
abbrev pub flown_of : Supervisor → Flown
flown_of s = record { flight = s.flight; opened = s.opened; report_due = s.report_due; totals = s.totals }

abbrev pub with_flown_of : Supervisor → Flown → Supervisor
with_flown_of s w = record s { flight = w.flight; opened = w.opened; report_due = w.report_due; totals = w.totals }

-- the answer with the waypoints as they were
abbrev pub beside_of : Supervisor → FlownAnswered → Answered
beside_of s a = record { supervisor = with_flown_of s a.flown; answer = a.answer }

-- a refusal keeps it
unfoldable pub flown_refused_of : Flown → Refusal → FlownAnswered
flown_refused_of w refusal = record { flown = w; answer = answer_of w.flight (Err refusal) }

-- an accepted one that leaves this flight and answers this: the day totals count it
unfoldable pub flown_accepted_of : Flown → FlightSupervisor → Output → FlownAnswered
flown_accepted_of w f out =
    record {
      flown =
          record {
            flight = f;
            opened = w.opened;
            report_due = report_due_after out;
            totals = counted_of w.totals (is_tick_of out) w.flight.fsm.mode f.fsm.mode;
          };
      answer = answer_of f (Ok out);
    }

-- what is left, and the answer
unfoldable pub flight_step_of : Flown → Legs → Request → FlownAnswered
flight_step_of w l r =
    option_map_or (flown_refused_of w) (sequence_refusal_of w.opened w.report_due (is_report r))
    (flown_accepted_of w (flight_after w.flight l r) (output_of w.flight l r))

-- a call whose step may leave such a flight and output: refused by its sequence, or accepted with one of them
abbrev pub InSequence : Flown → Bool → (FlightSupervisor × Output → Type 0) → FlownAnswered → Type 0
InSequence w report Left a =
    MatchOption (sequence_refusal_of w.opened w.report_due report)
    ((left : FlightSupervisor × Output) × Left left × (a ≡ flown_accepted_of w left.0 left.1))
    (λ e. a ≡ flown_refused_of w e)
