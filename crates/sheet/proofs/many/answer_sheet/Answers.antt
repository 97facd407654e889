-- The whole lines are answered, and the last line where no newline is left.
use Rattle.std.proofs.Common.{arith, ◌+◌, ◌≤◌, length, refl, sym, ap, ◌∙◌}
use Rattle.std.specs.Prelude.{is_some}
use Rattle.falcon_core.specs.Calls.{unopened}
use Rattle.sheet.proofs.Sheets.{sheet_full, sheet_more, sums_most}
use Rattle.sheet.proofs.many.answer_sheet.Goals.{After-answer_last-last}
use Rattle.sheet.proofs.many.answer_sheet.Goals as goal

pub returns-then-is_some : goal.returns-then-is_some
returns-then-is_some c = let a = c.args in
    let call = c.answer_lines-whole in
    let left = ap is_some (sym c.find_newline.ensures) ∙ sym c.is_some.ensures ∙ c.if-is_some.true in
    let all =
    sheet_full unopened a.input.now a.out.now call.new.out call.result (rw c.new.ensures at call.ensures.progress) (rw c.new.ensures at call.ensures.buffer) left in
    record { progress = all.0; buffer = all.1; unchanged = refl }

-- what both parts of a sheet took, wrote and answered is no more than there is
sums :
    (c : After-answer_last-last)
    → (c.answer_lines-whole.result.used + c.answer_last-last.result.used ≤ length c.args.input.now)
    × ((c.answer_lines-whole.result.written + c.answer_last-last.result.written ≤ length c.args.out.now)
    × (c.answer_lines-whole.result.lines + c.answer_last-last.result.lines ≤ length c.args.input.now))
sums c =
    let call = c.answer_lines-whole in
    let last = c.answer_last-last in
    let none = ap is_some (sym c.find_newline.ensures) ∙ sym c.is_some.ensures ∙ c.if-is_some.false in
    sums_most _ c.args.input.now c.args.out.now call.new.out call.result call.ensures.progress call.ensures.buffer none
    last.result last.new.out last.ensures.progress last.ensures.buffer

pub overflow_add-result : goal.overflow_add-result
overflow_add-result c = omega (arith, (sums (goal.at.overflow_add-result c).After-answer_last-last).0, c.well_formed.0.0)

pub overflow_add-result-2 : goal.overflow_add-result-2
overflow_add-result-2 c = omega (arith, (sums (goal.at.overflow_add-result-2 c).After-answer_last-last).1.0, c.well_formed.1.0.0)

pub overflow_add-result-3 : goal.overflow_add-result-3
overflow_add-result-3 c = omega (arith, (sums (goal.at.overflow_add-result-3 c).After-answer_last-last).1.1, c.well_formed.0.0)

pub returns : goal.returns
returns c = let a = c.args in
    let call = c.answer_lines-whole in
    let last = c.answer_last-last in
    let none = ap is_some (sym c.find_newline.ensures) ∙ sym c.is_some.ensures ∙ c.if-is_some.false in
    let all =
    sheet_more unopened a.input.now a.out.now call.new.out call.result (rw c.new.ensures at call.ensures.progress) (rw c.new.ensures at call.ensures.buffer) none
    last.result last.new.out last.ensures.progress last.ensures.buffer in
    record { progress = all.0; buffer = all.1; unchanged = refl }
