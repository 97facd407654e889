-- What a turn leaves is a step of `stream` over the bytes that the read gave, none where it failed.
use Rattle.std.proofs.Common.{arith}
use Rattle.sheet.proofs.LinesTurns.{kept_length}
use Rattle.daysheet.proofs.ReadParts.{read_end, turn_part}
use Rattle.daysheet.proofs.turn.Goals as goal

pub invariant_of-result : goal.invariant_of-result
invariant_of-result c = record { short = omega (arith, c.keep.ensures.value, kept_length c.fill-filled.new.buf c.drain-drained.result.used c.unwrap_or-end.result) }

pub returns : goal.returns
returns c =
    let a = c.args in
    let filled = c.fill-filled in
    let drained = c.drain-drained in
    let kept = c.keep.ensures in
    let more = read_end filled.result a.begun.have _ (omega (arith, a.begun.short)) filled.ensures.end in
    turn_part a.begun.supervisor a.buf.now filled.new.buf a.begun.have c.unwrap_or-end.result (rw c.unwrap_or-end.ensures more.0) filled.ensures.buf_unchanged
    drained.result.supervisor drained.result.used c.keep.result _ drained.ensures.supervisor drained.ensures.used kept.value kept.buf_after
