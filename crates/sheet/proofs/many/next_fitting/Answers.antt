-- No newline is left, or the line before it has too little room.
use Rattle.std.proofs.Common.{◌-◌, take, drop, sym, ◌∙◌}
use borrow.Author.Tests.{leb-true}
use Rattle.requests.specs.ByLine.{need_of}
use Rattle.std.specs.Prelude.{Some, None}
use Rattle.sheet.proofs.LinesTurns.{place_says}
use Rattle.sheet.proofs.Replies.{ends_none, ends_full}
use Rattle.sheet.proofs.many.next_fitting.Goals as goal

pub returns-in_err-end : goal.returns-in_err-end
returns-in_err-end c = let a = c.args in
    rw c.from_residual.ensures (ends_none a.input.now a.from a.room (place_says a.input.now a.from None c.in_err-end.ensures))

pub returns-then-lacks_room : goal.returns-then-lacks_room
returns-then-lacks_room c = let a = c.args in
    let e = c.in_ok-end.end in
    let found = place_says a.input.now a.from (Some e) c.in_ok-end.ensures in
    ends_full a.input.now a.from a.room e found.0 found.1
    (leb-true a.room (need_of (take (e - a.from) (drop a.from a.input.now))) (sym c.lacks_room.ensures ∙ c.if-lacks_room.true))
