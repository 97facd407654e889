-- Wherever a list of calls asks for the day totals, each is its count, and no other answer depends on them.
use Prim.Native.Nat.{ℕ}
use mathlib.Core.List.{List, [], ◌∷◌, ◌++◌, map}
use mathlib.Core.Path.{◌≡◌, refl, ap, ◌∙◌}
use Rattle.std.specs.Prelude.{Ok, Err}
use Rattle.falcon_totals.specs.declared.DayTotals.{DayTotals}
use Rattle.falcon_totals.specs.Totals.{totals_numbers}
use Rattle.falcon_core.specs.declared.supervisor.Supervisor.{Supervisor}
use Rattle.falcon_core.specs.declared.supervisor.Answered.{Answered}
use Rattle.falcon_core.specs.declared.answer.Output.TheVariants.{Totals}
use Rattle.falcon_core.specs.Calls.{totals, refused_of}
use Rattle.falcon_core.specs.Answer.{answer_of, numbers_of}
use Rattle.falcon_core.proofs.Answers.{tells_totals}
use Rattle.falcon_totals.proofs.Counting.{numbers_are}
use Rattle.falcon_core.proofs.Totals.{with_totals, totals_apart}
use Rattle.requests.specs.Kinds.{Asked, asked_step}
use Rattle.requests.specs.ByLine.{buffered_line_asks, line_step, extra_of}
use Rattle.call_lists.specs.Lists.{Call, by_values, by_line, by_array, call_asks, Place, call_step, place_after, next_place_of, answers_from, place_at_of, first_place}
use Rattle.call_lists.specs.DayTotals.{DayTotalsShown}
use Rattle.call_lists.proofs.CallSeen.{save_asked, seen}
use Rattle.call_lists.proofs.ToldSeen.{shown_seen}
use Rattle.call_lists.proofs.PlaceHolds.{place_holding, start_holding}

pub totals_shown : DayTotalsShown
unfolding extra_of
totals_shown here c e =
    let p = place_at_of here in
    shown_seen p.supervisor totals Totals tells_totals _ _ (seen p.supervisor c) e
    ∙ ap (λ (l : List ℕ). numbers_of (call_step p.supervisor c).answer ++ l) (ap totals_numbers (place_holding first_place here start_holding).totals_are ∙ numbers_are p.counted)

-- ---- the ten fields of every answer, whatever the totals are

-- the same state but for the totals
abbrev Beside : Supervisor → Supervisor → Type 0
Beside s u = u ≡ with_totals s u.totals

asked_apart : (s : Supervisor) (t : DayTotals) (k : Asked) → ((asked_step (with_totals s t) k).answer ≡ (asked_step s k).answer) × Beside (asked_step s k).supervisor (asked_step (with_totals s t) k).supervisor
unfolding refused_of answer_of
asked_apart s t (Err n) = (refl, refl)
asked_apart s t (Ok r) = totals_apart s t r

call_apart : (s u : Supervisor) (c : Call) → Beside s u → ((call_step u c).answer ≡ (call_step s c).answer) × Beside (call_step s c).supervisor (call_step u c).supervisor
unfolding call_step line_step
call_apart s u (by_values r) e = rw e (asked_apart s u.totals (Ok r))
call_apart s u (by_line line out) e = rw e (asked_apart s u.totals (buffered_line_asks line out))
call_apart s u (by_array a) e = rw (save_asked s a, save_asked u a, e) (asked_apart s u.totals (call_asks (by_array a)))

-- every list of calls is answered alike from two states that differ in their totals alone
pub answers_apart :
    (l : List Call) (p q : Place) →
    Beside p.supervisor q.supervisor →
    map (λ (a : Answered). a.answer) (answers_from q l) ≡ map (λ (a : Answered). a.answer) (answers_from p l)
unfolding answers_from next_place_of place_after
answers_apart [] p q e = refl
answers_apart (c ∷ l) p q e =
    let h = call_apart p.supervisor q.supervisor c e in
    let rest = answers_apart l (next_place_of p c) (next_place_of q c) h.1 in
    λ i. h.0 i ∷ rest i
