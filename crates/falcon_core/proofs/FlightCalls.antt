-- A tick, a report and a command by the flight alone: the state's call leaves the waypoints, and the rest is the flight's.
use mathlib.Core.Bool.{Bool}
use mathlib.Core.Path.{◌≡◌, refl}
use Rattle.std.specs.Prelude.{Option, Some, None}
use Rattle.relay_fsm.specs.declared.Event.{Event}
use Rattle.falcon_state.specs.declared.mission.Legs.{Legs}
use Rattle.falcon_state.specs.declared.tick.Tick.{Tick}
use Rattle.falcon_core.specs.declared.refusal.Refusal.{Refusal}
use Rattle.falcon_core.specs.declared.supervisor.Supervisor.{Supervisor}
use Rattle.falcon_core.specs.declared.flown.Flown.{Flown}
use Rattle.falcon_core.specs.declared.flown.FlownAnswered.{FlownAnswered}
use Rattle.falcon_core.specs.Calls.{Request, opens, ticks, reports, commands, plans, is_report, shape_refusal, sequence_refusal_of, state_refusal, refusal_of, legs_in, flight_after, waypoints_after, output_of, totals_after, after_of}
use Rattle.falcon_core.specs.Calls.{refused_of, accepted_of, step_of}
use Rattle.falcon_core.specs.Flown.{flown_refused_of, flown_accepted_of, no_legs, flight_step_of, flown_of, beside_of}
use Rattle.falcon_core.proofs.Answers.{step_refused, step_accepted}

-- a tick, a report or a command
abbrev Flying : Request → Type 0
Flying (opens o) = ⊥
Flying (plans p) = ⊥
Flying r = Unit {0}

module _ (s : Supervisor) where
  flown_by :
      (r : Request) (o : Option Refusal) →
      Flying r →
      sequence_refusal_of s.opened s.report_due (is_report r) ≡ o →
      beside_of s (flight_step_of (flown_of s) (legs_in s) r) ≡ step_of s r
  unfolding flight_step_of refusal_of shape_refusal state_refusal flown_refused_of flown_accepted_of refused_of accepted_of after_of flight_after waypoints_after output_of totals_after
  flown_by (opens o) x k e = absurd k
  flown_by (plans p) x k e = absurd k
  flown_by r None k e = rw (step_accepted s r (rw e), e)
  flown_by r (Some x) k e = rw (step_refused s r x (rw e), e)

  -- a tick leaves the waypoints, and of the rest what the flight's tick does
  pub tick_beside :
      (t : Tick) (l : Legs) (w : Flown) (a : FlownAnswered) →
      l ≡ legs_in s →
      w ≡ flown_of s →
      a ≡ flight_step_of w l (ticks t) →
      beside_of s a ≡ step_of s (ticks t)
  tick_beside t l w a el ew e = rw (e, ew, el) (flown_by (ticks t) _ tt refl)

  -- a report
  pub report_beside :
      (failed : Bool) (w : Flown) (a : FlownAnswered) →
      w ≡ flown_of s →
      a ≡ flight_step_of w no_legs (reports failed) →
      beside_of s a ≡ step_of s (reports failed)
  unfolding flight_step_of flight_after output_of
  report_beside failed w a ew e = rw (e, ew) (flown_by (reports failed) _ tt refl)

  -- a command
  pub command_beside :
      (ev : Event) (level low : Bool) (w : Flown) (a : FlownAnswered) →
      w ≡ flown_of s →
      a ≡ flight_step_of w no_legs (commands ev level low) →
      beside_of s a ≡ step_of s (commands ev level low)
  unfolding flight_step_of flight_after output_of
  command_beside ev level low w a ew e = rw (e, ew) (flown_by (commands ev level low) _ tt refl)
