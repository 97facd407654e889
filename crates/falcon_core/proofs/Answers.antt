-- A call by cases: which refusal fits, and what an accepted call gives.
use mathlib.Core.Bool.{Bool, true, false}
use mathlib.Core.Path.{◌≡◌, refl}
use Rattle.std.specs.Prelude.{cond, Option, Some, None, Ok, Err}
use Rattle.std.specs.Option.{option_map_or}
use Rattle.falcon_core.specs.declared.supervisor.Supervisor.{Supervisor}
use Rattle.falcon_core.specs.declared.answer.Output.{Output}
use Rattle.falcon_core.specs.declared.answer.Output.TheVariants.{Totals, Record}
use Rattle.falcon_core.specs.declared.refusal.Refusal.{Refusal}
use Rattle.falcon_core.specs.declared.refusal.Refusal.TheVariants.{WrongCount, Inadmissible}
use Rattle.falcon_state.specs.declared.mission.Legs.{Legs}
use Rattle.falcon_state.specs.declared.flight.FlightSupervisor.{FlightSupervisor}
use Rattle.falcon_core.specs.Answer.{report_due_after}
use Rattle.falcon_core.specs.Calls.{Request, Planning, plans, totals, saves, miscounted, point_refused, settled_of, shape_refusal, sequence_refusal_of, state_refusal, refusal_of, legs_in, planned_of, flight_after, waypoints_after, output_of, totals_after, after_of, refused_of, accepted_of, step_of}

-- a refusal that fits is answered and keeps the state
pub step_refused : (s : Supervisor) (r : Request) (e : Refusal) → refusal_of s r ≡ Some e → step_of s r ≡ refused_of s e
unfolding step_of
step_refused s r e h = rw h

-- where none fits the call is accepted
pub step_accepted : (s : Supervisor) (r : Request) → refusal_of s r ≡ None → step_of s r ≡ accepted_of (after_of s r) (output_of s.flight (legs_in s) r)
unfolding step_of
step_accepted s r h = rw h

-- a call in sequence finds an opening, and no report due where it is none
pub in_sequence : (opened due : Bool) → sequence_refusal_of opened due false ≡ None → (opened ≡ true) × (due ≡ false)
unfolding sequence_refusal_of
in_sequence true true q = cc
in_sequence true false q = (refl, refl)
in_sequence false due q = cc

-- no report is due after what the planner asks
plan_none_due : (f : FlightSupervisor) (l : Legs) (p : Planning) → report_due_after (output_of f l (plans p)) ≡ false
unfolding output_of
plan_none_due f l totals = refl
plan_none_due f l p = refl

-- the state after it, in sequence
abbrev pub planned_state : Supervisor → Planning → Supervisor
planned_state s p = record s { flight = planned_of s.flight p; waypoints = waypoints_after s.waypoints (plans p) }

module _ (s : Supervisor) (p : Planning) where
  planned_by :
      (w : Bool) (o : Option Refusal) (b : Bool) →
      miscounted (plans p) ≡ w →
      sequence_refusal_of s.opened s.report_due false ≡ o →
      point_refused s.flight (plans p) ≡ b →
      step_of s (plans p)
      ≡ settled_of s (cond w (Err WrongCount) (option_map_or Err o (cond b (Err Inadmissible) (Ok (planned_state s p, output_of s.flight (legs_in s) (plans p))))))
  unfolding step_of refusal_of shape_refusal state_refusal after_of flight_after totals_after
  planned_by true o b ew eo eb = rw ew
  planned_by false (Some e) b ew eo eb = rw (ew, eo)
  planned_by false None true ew eo eb = rw (ew, eo, eb)
  planned_by false None false ew eo eb =
      let d = (in_sequence s.opened s.report_due eo).1 in rw (ew, eo, eb, d, plan_none_due s.flight (legs_in s) p)

  -- what the planner asks is refused by its count, its sequence or its points, or else accepted
  pub planned_step :
      step_of s (plans p)
      ≡ settled_of s (cond (miscounted (plans p)) (Err WrongCount) (option_map_or Err (sequence_refusal_of s.opened s.report_due false) (cond (point_refused s.flight (plans p)) (Err Inadmissible) (Ok (planned_state s p, output_of s.flight (legs_in s) (plans p))))))
  planned_step = planned_by _ _ _ refl refl refl

-- what changes nothing: a call for the totals, or for the state
pub data Telling : Planning → Output → Type 0 where
  tells_totals : Telling totals Totals
  tells_state : Telling saves Record

-- accepted, it answers that
pub told_output : (s : Supervisor) (p : Planning) (out : Output) → Telling p out → output_of s.flight (legs_in s) (plans p) ≡ out
unfolding output_of
told_output s _ _ tells_totals = refl
told_output s _ _ tells_state = refl
