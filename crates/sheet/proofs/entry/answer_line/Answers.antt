use Rattle.std.proofs.Common.{ap, sym, ◌∙◌}
use Rattle.std.specs.Prelude.{Ok}
use Rattle.falcon_state.specs.declared.mission.Legs.{Legs}
use Rattle.falcon_core.specs.declared.supervisor.Answered.{Answered}
use Rattle.falcon_core.specs.declared.flown.Flown.{Flown}
use Rattle.falcon_core.specs.declared.flown.FlownAnswered.{FlownAnswered}
use Rattle.falcon_core.specs.declared.supervisor.Supervisor.{Supervisor}
use Rattle.falcon_core.specs.Flown.{flight_step_of, flown_of, beside_of}
use Rattle.requests.specs.declared.kinds.LineCall.{LineCall}
use Rattle.requests.specs.Kinds.{asked_step, result_asks, flight_asks}
use Rattle.sheet.proofs.Entries.{call_beside}
use Rattle.sheet.proofs.entry.answer_line.Goals as goal

abbrev answer_as : Supervisor → FlownAnswered → Answered
answer_as s a = record { supervisor = s; answer = a.answer }

pub returns-in-Ok-Flight : goal.returns-in-Ok-Flight
returns-in-Ok-Flight c = let s = c.args.s in
    let arm = c.in-Ok-Flight in
    let told = c.flight_step-told in
    let step = told.ensures
    ∙ ap (λ (w : Flown). flight_step_of w c.legs-legs.result (flight_asks arm.call)) c.flown.ensures
    ∙ ap (λ (l : Legs). flight_step_of (flown_of s) l (flight_asks arm.call)) c.legs-legs.ensures in
    ap (λ (x : Supervisor). answer_as x told.result) c.with_flown.ensures
    ∙ ap (beside_of s) step
    ∙ call_beside (flown_of s) s.waypoints arm.call
    ∙ ap (asked_step s) (ap (λ (k : LineCall). result_asks c.line_asks.new.numbers (Ok k)) (sym arm.field-0-is) ∙ arm.ensures.asks.0)
