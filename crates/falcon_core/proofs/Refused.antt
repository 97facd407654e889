-- What a refusal keeps, and what acceptance tells.
use mathlib.Core.Bool.{Bool, true, false, cond}
use mathlib.Core.Path.{◌≡◌, refl, ap}
use Rattle.std.specs.Prelude.{Option, Some, None, Ok, Err}
use Rattle.std.specs.Option.{option_or, option_map_or}
use Rattle.falcon_core.specs.declared.supervisor.Supervisor.{Supervisor}
use Rattle.falcon_core.specs.declared.answer.Output.{Output}
use Rattle.falcon_core.specs.declared.answer.Output.TheVariants.{Totals, Record}
use Rattle.falcon_core.specs.declared.supervisor.Answered.{Answered}
use Rattle.falcon_core.specs.declared.refusal.Refusal.{Refusal}
use Rattle.falcon_core.specs.declared.refusal.Refusal.TheVariants.{NoOpening, ReportDue, NoReportDue, Inadmissible}
use Rattle.falcon_core.specs.Refusals.{refusal_number}
use Rattle.falcon_core.specs.Calls.{Request, Planning, plans, totals, saves, planned_of, waypoints_after, settled_of, miscounted, masks_too_large, is_opening, is_report, point_refused, refused_where, output_of, shape_refusal, sequence_refusal_of, state_refusal, refusal_of, after_of, refused_of, accepted_of, step_of}
use Rattle.falcon_core.proofs.Answers.{step_refused, step_accepted, planned_step, Telling, tells_totals, tells_state}

-- ---- refused calls

module _ (s : Supervisor) (r : Request) where
  -- "A refusal keeps the state"
  pub refused_keeps : (e : Refusal) → refusal_of s r ≡ Some e → (step_of s r).supervisor ≡ s
  unfolding refused_of
  refused_keeps e h = ap (λ (a : Answered). a.supervisor) (step_refused s r e h)

  after_by : (P : Supervisor → Type 0) (o : Option Refusal) → refusal_of s r ≡ o → P s → (refusal_of s r ≡ None → P (after_of s r)) → P (step_of s r).supervisor
  unfolding refused_of accepted_of
  after_by P None e k h = rw (step_accepted s r e) (h e)
  after_by P (Some n) e k h = rw (step_refused s r n e) k

  -- what holds of the state and is kept by the call if accepted holds after it
  pub step_keeps : (P : Supervisor → Type 0) → P s → (refusal_of s r ≡ None → P (after_of s r)) → P (step_of s r).supervisor
  step_keeps P = after_by P (refusal_of s r) refl

-- ---- accepted calls

-- a test that does not fit
unfit : (b : Bool) (e : Refusal) → refused_where b e ≡ None → b ≡ false
unfit true e q = cc
unfit false e q = refl

-- no refusal, and none after it
neither : (o p : Option Refusal) → option_or o p ≡ None → (o ≡ None) × (p ≡ None)
neither None p e = (refl, e)
neither (Some n) p e = cc

-- none of the table's tests fits
pub record Passed (s : Supervisor) (r : Request) : Type 0 where
  pub right_count : miscounted r ≡ false
  pub in_range : masks_too_large r ≡ false
  pub in_sequence : cond (is_opening r) None (sequence_refusal_of s.opened s.report_due (is_report r)) ≡ None
  pub admissible : point_refused s.flight r ≡ false

pub accepted_passed : (s : Supervisor) (r : Request) → refusal_of s r ≡ None → Passed s r
unfolding refusal_of shape_refusal state_refusal
accepted_passed s r e =
    let a = neither (shape_refusal r) (state_refusal s r) e in
    let b = neither _ _ a.0 in
    let d = neither (cond (is_opening r) None (sequence_refusal_of s.opened s.report_due (is_report r))) (refused_where (point_refused s.flight r) Inadmissible) a.1 in
    record { right_count = unfit _ _ b.0; in_range = unfit _ _ b.1; in_sequence = d.0; admissible = unfit _ _ d.1 }

-- a call that none of them fits is accepted
pub passed_accepted : (s : Supervisor) (r : Request) → Passed s r → refusal_of s r ≡ None
unfolding refusal_of shape_refusal state_refusal
passed_accepted s r p = rw (p.right_count, p.in_range, p.in_sequence, p.admissible)

kept_from : (s : Supervisor) (out : Output) (o : Option Refusal) → (settled_of s (option_map_or Err o (Ok (s, out)))).supervisor ≡ s
unfolding refused_of accepted_of
kept_from s out None = refl
kept_from s out (Some e) = refl

-- a call for the totals or for the state keeps the whole state, accepted or refused
pub told_keeps : (s : Supervisor) (p : Planning) (out : Output) → Telling p out → (step_of s (plans p)).supervisor ≡ s
unfolding planned_of waypoints_after output_of
told_keeps s _ _ tells_totals = rw (planned_step s totals) (kept_from s Totals _)
told_keeps s _ _ tells_state = rw (planned_step s saves) (kept_from s Record _)

-- ---- the table's rows 1, 6 and 7, of a call that is no opening

-- before an opening 1; while a report is due 6, but for a report; for a report where none is due 7; else none of them
pub sequence_table :
    ((due report : Bool) → sequence_refusal_of false due report ≡ Some NoOpening)
    × ((sequence_refusal_of true true false ≡ Some ReportDue) × ((sequence_refusal_of true false true ≡ Some NoReportDue) × ((sequence_refusal_of true true true ≡ None) × (sequence_refusal_of true false false ≡ None))))
unfolding sequence_refusal_of
sequence_table = ((λ due report. refl), (refl, (refl, (refl, refl))))

-- and their numbers
pub sequence_numbers : (refusal_number NoOpening ≡ 1) × ((refusal_number ReportDue ≡ 6) × (refusal_number NoReportDue ≡ 7))
sequence_numbers = (refl, (refl, refl))
