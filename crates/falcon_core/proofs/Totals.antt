-- The day totals stand beside the rest of the state: no other part of it depends on them, and none of an answer's ten numbers.
use mathlib.Core.Bool.{◌||◌}
use mathlib.Core.Path.{◌≡◌, refl, ◌∙◌}
use Rattle.std.specs.Prelude.{Option, Some, None}
use Rattle.falcon_core.specs.declared.refusal.Refusal.{Refusal}
use Rattle.falcon_totals.specs.declared.DayTotals.{DayTotals}
use Rattle.falcon_core.specs.declared.supervisor.Supervisor.{Supervisor}
use Rattle.falcon_core.specs.declared.supervisor.Answered.{Answered}
use Rattle.falcon_core.specs.Calls.{Request, is_opening, refusal_of, state_refusal, legs_in, flight_after, waypoints_after, output_of, after_of, refused_of, accepted_of, step_of}
use Rattle.falcon_core.specs.Answer.{report_due_after, answer_of}
use Rattle.falcon_core.proofs.Answers.{step_refused, step_accepted}

-- the state with these totals for its own
abbrev pub with_totals : Supervisor → DayTotals → Supervisor
with_totals s t = record s { totals = t }

-- an accepted call leaves of the rest what it did before there were totals
pub inner_after : (s : Supervisor) (r : Request) → refusal_of s r ≡ None
    → (step_of s r).supervisor
    ≡ record { flight = flight_after s.flight (legs_in s) r; waypoints = waypoints_after s.waypoints r; opened = is_opening r || s.opened; report_due = report_due_after (output_of s.flight (legs_in s) r); totals = (after_of s r).totals }
unfolding after_of accepted_of
inner_after s r e = rw (step_accepted s r e)

module _ (s : Supervisor) (t : DayTotals) where
  -- with other totals the same refusal fits
  refusal_apart : (r : Request) → refusal_of (with_totals s t) r ≡ refusal_of s r
  unfolding refusal_of state_refusal
  refusal_apart r = refl

  -- the answer is the same, and of the state all but the totals
  abbrev Apart : Answered → Answered → Type 0
  Apart a b = (a.answer ≡ b.answer) × (a.supervisor ≡ with_totals b.supervisor a.supervisor.totals)

  apart_by : (r : Request) (o : Option Refusal) → refusal_of s r ≡ o → Apart (step_of (with_totals s t) r) (step_of s r)
  unfolding refused_of accepted_of answer_of after_of
  apart_by r None e = rw (step_accepted s r e, step_accepted (with_totals s t) r (refusal_apart r ∙ e)) (refl, refl)
  apart_by r (Some n) e = rw (step_refused s r n e, step_refused (with_totals s t) r n (refusal_apart r ∙ e)) (refl, refl)

  -- no answer's ten fields depend on the totals, and no other part of the state does
  pub totals_apart : (r : Request) → Apart (step_of (with_totals s t) r) (step_of s r)
  totals_apart r = apart_by r (refusal_of s r) refl
