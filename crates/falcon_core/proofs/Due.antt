-- After which calls a report is due, and that it finds the mode airborne.
use mathlib.Core.Bool.{Bool, true, cond}
use mathlib.Core.Logic.{◌↔◌}
use mathlib.Core.Path.{◌≡◌, refl, sym, ap, ◌∙◌}
use lib.Dec.{T}
use Rattle.std.specs.Prelude.{None}
use Rattle.std.proofs.lemmas.Bool.{both_ways}
use Rattle.relay_fsm.specs.declared.Mode.{Mode}
use Rattle.relay_fsm.specs.declared.Mode.TheVariants.{Disarmed}
use Rattle.relay_fsm.specs.Mode.{is_airborne_of}
use Rattle.falcon_state.specs.declared.point.Point.{Point}
use Rattle.falcon_state.specs.declared.mission.Legs.{Legs}
use Rattle.falcon_state.specs.declared.tick.Tick.{Tick}
use Rattle.falcon_state.specs.declared.flight.FlightSupervisor.{FlightSupervisor}
use Rattle.falcon_guidance.specs.Setpoint.{motors_off_of}
use Rattle.falcon_tick.specs.declared.tick.TickAnswer.{TickAnswer}
use Rattle.falcon_tick.specs.declared.tick.TickAnswer.TheVariants.{MotorsOff, Setpoint}
use Rattle.falcon_tick.specs.Tick.{reached, after_tick, answered, tick_of}
use Rattle.falcon_core.specs.declared.answer.Output.TheVariants.{Ticks}
use Rattle.falcon_core.specs.declared.supervisor.Supervisor.{Supervisor}
use Rattle.falcon_core.specs.Calls.{Request, ticks, plans, totals, unopened, refusal_of, legs_in, flight_after, after_of, output_of, accepted_of, step_of}
use Rattle.falcon_core.specs.Answer.{report_due_after}
use Rattle.falcon_core.proofs.Answers.{step_accepted}

-- ---- which calls

-- the call is a tick whose answer is not motors off
pub record FlyingTick (s : Supervisor) (r : Request) : Type 0 where
  pub tick : Tick
  pub asks : r ≡ ticks tick
  pub flies : (tick_of s.flight (legs_in s) tick).answer ≡ MotorsOff → ⊥

motors_on : (a : TickAnswer) → report_due_after (Ticks a) ≡ true → a ≡ MotorsOff → ⊥
motors_on a d e = both_ways (report_due_after (Ticks a)) (ap (λ (b : TickAnswer). report_due_after (Ticks b)) e) d

due_if_on : (a : TickAnswer) → (a ≡ MotorsOff → ⊥) → report_due_after (Ticks a) ≡ true
due_if_on MotorsOff h = absurd (h refl)
due_if_on (Setpoint ned landing rearm) h = refl

due_flying : (s : Supervisor) (r : Request) → report_due_after (output_of s.flight (legs_in s) r) ≡ true → FlyingTick s r
unfolding output_of
due_flying s (ticks t) d = record { tick = t; asks = refl; flies = motors_on (tick_of s.flight (legs_in s) t).answer d }
due_flying s (plans totals) d = absurd (both_ways _ refl d)
due_flying s r d = absurd (both_ways _ refl d)

flying_due : (s : Supervisor) (r : Request) → FlyingTick s r → report_due_after (output_of s.flight (legs_in s) r) ≡ true
unfolding output_of
flying_due s r k = rw k.asks (due_if_on (tick_of s.flight (legs_in s) k.tick).answer k.flies)

-- "due after every tick that doesn't say motors off", and after no other accepted call
pub due_only_after_tick : (s : Supervisor) (r : Request) → refusal_of s r ≡ None → ((step_of s r).supervisor.report_due ≡ true) ↔ FlyingTick s r
unfolding accepted_of after_of
due_only_after_tick s r e = rw (step_accepted s r e) (due_flying s r, flying_due s r)

-- ---- a due report finds the mode airborne

-- due where the motors are not off: in the air
due_airborne_by : (m : Mode) (ned : Point) (landing rearm : Bool) → report_due_after (Ticks (cond (motors_off_of m) MotorsOff (Setpoint ned landing rearm))) ≡ is_airborne_of m
due_airborne_by Disarmed ned landing rearm = refl
due_airborne_by m ned landing rearm = refl

-- a report is due after a tick exactly where it ends airborne
pub tick_due : (f : FlightSupervisor) (l : Legs) (t : Tick) → report_due_after (Ticks (tick_of f l t).answer) ≡ is_airborne_of (tick_of f l t).flight.fsm.mode
unfolding tick_of after_tick answered
tick_due f l t = due_airborne_by (reached f l t).mode _ _ _

-- a due report finds the mode airborne
abbrev pub DueAirborne : Supervisor → Type 0
DueAirborne s = s.report_due ≡ true → T (is_airborne_of s.flight.fsm.mode)

-- an accepted call
pub after_due_airborne : (s : Supervisor) (r : Request) → DueAirborne s → refusal_of s r ≡ None → DueAirborne (after_of s r)
unfolding after_of flight_after output_of
after_due_airborne s (ticks t) k e d = rw (sym (tick_due s.flight (legs_in s) t) ∙ d) tt
after_due_airborne s (plans totals) k e d = absurd (both_ways _ refl d)
after_due_airborne s r k e d = absurd (both_ways _ refl d)

-- the state with no opening
pub due_unopened : DueAirborne unopened
unfolding unopened
due_unopened d = absurd (both_ways _ refl d)
