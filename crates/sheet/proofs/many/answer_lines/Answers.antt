use Rattle.std.proofs.Common.{refl, rules, arith, ℕ, ◌+◌, ◌-◌, ◌≤◌, ◌≡◌, sym, ap, ◌∙◌, List, [], ◌∷◌, ◌++◌, length, take, drop}
use Rattle.std.specs.Prelude.{Ok}
use Rattle.falcon_state.specs.declared.point.Point.{Point}
use Rattle.falcon_state.specs.Point.{max_waypoints}
use Rattle.falcon_guidance.proofs.LegPlaces.{legs_are}
use Rattle.falcon_core.specs.declared.supervisor.Supervisor.{Supervisor}
use Rattle.falcon_core.specs.declared.flown.Flown.{Flown}
use Rattle.falcon_core.specs.Answer.{answer_fields}
use Rattle.falcon_core.specs.Calls.{refused_of, step_of}
use Rattle.columns.specs.Field.{put}
use Rattle.requests.specs.declared.kinds.LineCall.{LineCall}
use Rattle.requests.specs.Kinds.{asked_step, result_asks, other_asks}
use Rattle.requests.specs.Parse.{line_asks}
use Rattle.requests.specs.ByLine.{need_of}
use Rattle.sheet.specs.declared.many.Progress.{Progress}
use Rattle.sheet.specs.Entry.{Replied}
use Rattle.sheet.specs.Lines.{newline, whole_lines}
use Rattle.sheet.specs.Many.{after_line, reply_line, fitting, state_of, progress_of, answers_over}
use Rattle.sheet.proofs.LinesAgain.{whole_most}
use Rattle.sheet.proofs.LinesTurns.{after_none, after_all, after_more, line_left}
use Rattle.sheet.proofs.LinesFit.{line_fits}
use Rattle.sheet.proofs.Replies.{reply_room, reply_bytes, reply_long, lines_progress, lines_buffer}
use Rattle.sheet.proofs.Entries.{replied_as, replied_flight, replied_refused}
use Rattle.sheet.proofs.many.answer_lines.Goals.{Joined-line_asks, in-Ok-Flight, in-Ok-Other, in-Err}
use Rattle.sheet.proofs.many.answer_lines.Goals as goal

pub loop-end-init : goal.loop-end-init
loop-end-init c = record { after = after_none _ _ _; room = omega arith; places = search rules }

-- the line is answered
replied_is :
    (c : Joined-line_asks) →
    let l = c.loop-end in
    let m = c.match-line_asks in
    let line = take (c.in-Some.end - l.used) (drop l.used c.args.input.now) in
    let s = state_of l.flown l.waypoints in
    Replied (asked_step s (line_asks line)) (state_of m.flown m.waypoints) m.numbers m.count
    × (length m.waypoints ≡ max_waypoints)
replied_is c =
    let l = c.loop-end in
    let m = c.match-line_asks in
    let s = state_of l.flown l.waypoints in
    let line = take (c.in-Some.end - l.used) (drop l.used c.args.input.now) in
    let long = l.invariant.places in
    let read = c.line_asks.new.numbers in
    elim m.branch [
      | in-Ok-Flight w ↦
          let arm = w.in-Ok-Flight in
          let told = w.flight_step-told in
          let legs = legs_are l.waypoints long l.flown.flight.config l.flown.flight.mission w.here_place.result w.next_place.result w.legs_from.result w.here_place.ensures w.next_place.ensures w.legs_from.ensures in
          let is = ap (λ (k : LineCall). result_asks read (Ok k)) (sym arm.field-0-is) ∙ arm.ensures.asks.0 in (
            replied_as _ (asked_step s (line_asks line)) _ _ w.put_answer.new.numbers m.numbers answer_fields m.count
                (replied_flight l.flown l.waypoints arm.call w.legs_from.result told.result w.put_answer.new.numbers _ legs told.ensures w.put_answer.ensures (omega arith))
                (ap (asked_step s) is) (λ i. state_of (w.flown-is i) (w.waypoints-is i)) w.numbers-is w.count-is,
            ap (λ (x : List Point). length x) w.waypoints-is ∙ long,
          )
      | in-Ok-Other w ↦
          let arm = w.in-Ok-Other in
          let step = w.other_step-answered in
          let put = w.put_reply-count in
          let answered = step.ensures ∙ ap (λ (x : Supervisor). step_of x (other_asks read arm.call)) w.whole_state.ensures in
          let is = ap (λ (k : LineCall). result_asks read (Ok k)) (sym arm.field-0-is) ∙ arm.ensures.asks.0 in
          let left : state_of m.flown m.waypoints ≡ step.result.supervisor = λ i. state_of ((w.flown-is ∙ w.flown-flown-in-Ok-Other.ensures) i) (w.waypoints-is i) in (
            replied_as _ (asked_step s (line_asks line)) _ _ put.new.numbers m.numbers put.result m.count put.ensures
                (answered ∙ ap (asked_step s) is) left w.numbers-is w.count-is,
            ap (λ (x : List Point). length x) w.waypoints-is ∙ search rules,
          )
      | in-Err w ↦
          let arm = w.in-Err in
          let put = w.put_answer-in-Err in
          let refused = w.refused-answered.ensures ∙ ap (λ (x : Supervisor). refused_of x arm.refusal) w.whole_state-in-Err.ensures in (
            replied_as _ (asked_step s (line_asks line)) _ _ put.new.numbers m.numbers answer_fields m.count
                (replied_refused s arm.refusal w.refused-answered.result put.new.numbers _ refused put.ensures (omega arith))
                (ap (asked_step s) arm.ensures.asks.0) (λ i. state_of (w.flown-is i) (w.waypoints-is i)) w.numbers-is w.count-is,
            ap (λ (x : List Point). length x) w.waypoints-is ∙ long,
          )
    ]

pub write_reply-written-requires : goal.write_reply-written-requires
write_reply-written-requires c = let l = c.loop-end in
    let line = take (c.in-Some.end - l.used) (drop l.used c.args.input.now) in
    let s = state_of l.flown l.waypoints in
    omega (arith, reply_room s line _ (replied_is (goal.at.write_reply-written-requires c).Joined-line_asks).0.numbers, c.in-Some.ensures.fits, l.invariant.after.long, l.invariant.room)

pub overflow_add-lines : goal.overflow_add-lines
overflow_add-lines c = let l = c.loop-end in
    let found = c.in-Some.ensures.found in
    omega (arith, line_left _ _ _ _ _ _ _ _ l.invariant.after _ found.1 found.0, whole_most c.args.input.now, c.well_formed.1.0.0)

pub loop-end-preserved : goal.loop-end-preserved
unfolding after_line
loop-end-preserved c = let a = c.args in
    let l = c.loop-end in
    let m = c.match-line_asks in
    let e = c.in-Some.end in
    let call = c.write_reply-written in
    let line = take (e - l.used) (drop l.used a.input.now) in
    let s₀ = state_of c.flown-flown.result a.s.waypoints in
    let s = state_of l.flown l.waypoints in
    let t = state_of m.flown m.waypoints in
    let ends = c.in-Some.ensures in
    let replied = replied_is (goal.at.loop-end-preserved c).Joined-line_asks in
    let is = replied.0.numbers in
    let next = call.new.out in
    let is-after : t ≡ after_line s line = replied.0.state in
    let more : call.result ≡ l.written + (length (reply_line s line) + 1) = omega (arith, call.ensures.value, reply_long s line _ is) in
    let fits : need_of line + 1 ≤ length a.out.now - l.written = omega (arith, ends.fits, l.invariant.after.long) in
    let placed : next ≡ put l.out l.written (reply_line s line ++ (newline ∷ [])) = call.ensures.out_after ∙ ap (λ (r : List ℕ). put l.out l.written (r ++ (newline ∷ []))) (reply_bytes s line _ is) in
    record {
      after =
          after_more s₀ a.input.now a.out.now s l.used l.written l.lines l.out l.invariant.after e ends.found.1 ends.found.0
          t call.result next is-after placed call.auto.out more fits;
      room = omega (arith, more, line_fits s line, ends.fits, l.invariant.room, l.invariant.after.long);
      places = replied.1;
    }

abbrev the_progress : Supervisor → ℕ → ℕ → ℕ → Progress
the_progress s used written lines = record { supervisor = s; used = used; written = written; lines = lines }

pub returns : goal.returns
returns c = let a = c.args in
    let l = c.loop-end in
    let s₀ = state_of c.flown-flown.result a.s.waypoints in
    let s = state_of l.flown l.waypoints in
    let first : s₀ ≡ a.s = ap (λ (w : Flown). state_of w a.s.waypoints) c.flown-flown.ensures in
    let g = l.invariant.after in
    let all = after_all s₀ a.input.now a.out.now s l.used l.written l.lines l.out g
    (ap (λ (n : ℕ). fitting s (whole_lines (drop l.used a.input.now)) (n - l.written)) (sym g.long) ∙ c.in_default.ensures.none s) in
    record {
      progress =
          ap (λ (x : Supervisor). the_progress x l.used l.written l.lines) c.whole_state-2.ensures
          ∙ lines_progress s₀ a.input.now a.out.now s l.used l.written l.lines l.out g all
          ∙ ap (λ (x : Supervisor). progress_of a.input.now x (fitting x (whole_lines a.input.now) (length a.out.now))) first;
      buffer =
          lines_buffer s₀ a.input.now a.out.now s l.used l.written l.lines l.out g all
          ∙ ap (λ (x : Supervisor). answers_over x (fitting x (whole_lines a.input.now) (length a.out.now)) a.out.now) first;
      unchanged = refl;
    }
