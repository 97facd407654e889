-- No line is there, or its answer does not fit, or it is answered.
use Rattle.std.proofs.Common.{arith, refl, ◌≡◌, sym, ap, ◌∙◌, List, ℕ, [], ◌∷◌, ◌++◌, length}
use borrow.Author.Tests.{eqb-true, eqb-false, leb-true, leb-false}
use Rattle.columns.specs.Field.{put}
use Rattle.falcon_core.specs.declared.supervisor.Answered.{Answered}
use Rattle.requests.specs.ByLine.{need_of, reply_numbers}
use Rattle.sheet.specs.Lines.{newline, last_line}
use Rattle.sheet.specs.Many.{after_line, fitting}
use Rattle.sheet.proofs.Replies.{reply_room, reply_bytes, reply_long, over_none, last_none, last_short, last_answer}
use Rattle.sheet.proofs.many.answer_last.Goals.{After-none_answered, then-is_empty-via-then-is_empty, then-is_empty-via-else-is_empty+then-lacks_room}
use Rattle.sheet.proofs.many.answer_last.Goals as goal

-- no line is answered
no_line : (c : After-none_answered) → fitting c.args.s (last_line c.args.input.now) (length c.args.out.now) ≡ []
no_line c = let a = c.args in
    elim c.then-is_empty.branch [
      | then-is_empty-via-then-is_empty w ↦ last_none a.s a.input.now (length a.out.now) (eqb-true _ _ (sym c.is_empty.ensures ∙ w.if-is_empty.true))
      | then-is_empty-via-else-is_empty+then-lacks_room w ↦
          last_short a.s a.input.now (length a.out.now) (leb-true (length a.out.now) (need_of a.input.now) (sym w.lacks_room.ensures ∙ w.if-lacks_room.true))
    ]

pub returns-then-is_empty : goal.returns-then-is_empty
returns-then-is_empty c = let a = c.args in
    let none = over_none a.s _ a.input.now a.out.now _ c.none_answered.ensures (no_line c) in
    record { progress = none.0; buffer = none.1; unchanged = refl }

pub write_reply-requires : goal.write_reply-requires
write_reply-requires c = let a = c.args in
    let h = leb-false (length a.out.now) (need_of a.input.now) (sym c.lacks_room.ensures ∙ c.if-lacks_room.false) in
    omega (arith, h, reply_room a.s a.input.now _ (c.put_reply-count.ensures.numbers ∙ ap reply_numbers c.answer_line-answered.ensures))

pub returns : goal.returns
unfolding after_line
returns c = let a = c.args in
    let h = leb-false (length a.out.now) (need_of a.input.now) (sym c.lacks_room.ensures ∙ c.if-lacks_room.false) in
    let is = c.put_reply-count.ensures.numbers ∙ ap reply_numbers c.answer_line-answered.ensures in
    let call = c.write_reply in
    let one =
    last_answer a.s a.input.now a.out.now call.new.out _ call.result (eqb-false _ _ (sym c.is_empty.ensures ∙ c.if-is_empty.false)) h
    (call.ensures.out_after ∙ ap (λ (l : List ℕ). put a.out.now 0 (l ++ (newline ∷ []))) (reply_bytes a.s a.input.now _ is))
    (ap (λ (x : Answered). x.supervisor) c.answer_line-answered.ensures)
    (omega (arith, call.ensures.value, reply_long a.s a.input.now _ is)) in
    record { progress = one.0; buffer = one.1; unchanged = refl }
