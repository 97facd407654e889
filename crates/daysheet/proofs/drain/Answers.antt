-- What is answered is drained, until no line is.
use Rattle.std.proofs.Common.{arith, ◌∙◌}
use Rattle.daysheet.proofs.Draining.{used_fits, drains_next, drains_last, some_read}
use Rattle.daysheet.proofs.drain.Goals as goal

pub returns-then-progress-eq0-clause-supervisor : goal.returns-then-progress-eq0-clause-supervisor
returns-then-progress-eq0-clause-supervisor c = let l = c.loop-progress in
    (drains_last _ _ _ _ l.invariant.drains _ _ c.answer_lines-progress.ensures.progress (omega arith) c.if-progress-eq0.true).0

pub returns-then-progress-eq0-clause-used : goal.returns-then-progress-eq0-clause-used
returns-then-progress-eq0-clause-used c = let l = c.loop-progress in
    (drains_last _ _ _ _ l.invariant.drains _ _ c.answer_lines-progress.ensures.progress (omega arith) c.if-progress-eq0.true).1

pub overflow_add-used : goal.overflow_add-used
overflow_add-used c = let l = c.loop-progress in
    omega (arith, used_fits _ _ _ _ (drains_next _ _ _ _ l.invariant.drains _ _ c.answer_lines-progress.ensures.progress))

pub loop-progress-smaller : goal.loop-progress-smaller
loop-progress-smaller c = let l = c.loop-progress in
    let is = c.answer_lines-progress.ensures.progress in
    omega (arith, used_fits _ _ _ _ (drains_next _ _ _ _ l.invariant.drains _ _ is), some_read _ _ _ _ l.invariant.drains _ _ is c.if-progress-eq0.false)

pub loop-progress-preserved : goal.loop-progress-preserved
loop-progress-preserved c = let l = c.loop-progress in
    record { drains = drains_next _ _ _ _ l.invariant.drains _ _ c.answer_lines-progress.ensures.progress; room = c.answer_lines-progress.auto.out ∙ l.invariant.room }
