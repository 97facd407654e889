-- `read_line` is `line_answer` and `numbers_over`: the length and the places are tried first, and then a turn reads a field.
use Rattle.std.proofs.Common.{◌≡◌, ℕ, ◌*◌, ◌/◌, ◌<◌, ◌≤◌, true, Ok, Err, List, [], length, get_or, take, drop, sym, ap, ◌∙◌, arith, rules}
use Rattle.columns.specs.declared.line.LineError.TheVariants.{Broken}
use Rattle.columns.specs.Field.{field_width, field_read}
use Rattle.columns.specs.Line.{count_answer, length_ok, line_answer, leading}
use Rattle.columns.proofs.LineAgain.{length_right}
use Rattle.columns.proofs.LineOver.{room_answer, room_over}
use Rattle.columns.proofs.LineTurns.{field_at, read_next, read_bad, read_last}
use Rattle.columns.proofs.line.read_line.Goals.{At-loop-k}
use Rattle.columns.proofs.line.read_line.Goals as goal

-- at the loop the length is right, and there is room
whole : (c : At-loop-k) → length_ok c.args.limit (length c.args.line.now) ≡ true
whole c = length_right c.args.limit (length c.args.line.now) (omega arith) (omega arith) (omega arith)

room : (c : At-loop-k) → length c.args.line.now / field_width ≤ length c.args.numbers.now
room c = omega arith

-- the field that is read in a turn
field : (c : At-loop-k) → c.loop-k.k < length c.args.line.now / field_width
    → field_read (get_or c.as_chunks.result.0.now c.loop-k.k []) ≡ field_read (take field_width (drop (field_width * c.loop-k.k) c.args.line.now))
field c h =
    let l = c.args.line.now in
    ap (λ (s : List (List ℕ)). field_read (get_or s c.loop-k.k [])) c.as_chunks.ensures.front ∙ ap field_read (field_at (length l / field_width) c.loop-k.k l h)

pub returns-in_err-numbers : goal.returns-in_err-numbers
returns-in_err-numbers c =
    let a = c.args in
    let at = (goal.at.returns-in_err-numbers c).At-loop-k in
    let turn : c.loop-k.k < length a.line.now / field_width = omega arith in
    let bad = sym (sym c.in_err-numbers.ensures.ok_part ∙ c.read_field.ensures ∙ field at turn) in
    let left = read_bad _ _ _ _ _ c.loop-k.invariant (room at) turn bad in
    let broken : line_answer a.limit a.line.now (length a.numbers.now) ≡ Err Broken = room_answer a.limit a.line.now a.numbers.now (whole at) (room at) ∙ ap count_answer left.0 in
    let refused : c.from_residual.result ≡ Err Broken = search rules in
    record { value = refused ∙ sym broken; numbers_after = left.1 ∙ sym (room_over a.limit a.line.now a.numbers.now (whole at) (room at)) }

pub loop-k-preserved : goal.loop-k-preserved
loop-k-preserved c =
    let at = (goal.at.loop-k-preserved c).At-loop-k in
    let turn : c.loop-k.k < length c.args.line.now / field_width = omega arith in
    let number = sym (field at turn) ∙ sym c.read_field.ensures ∙ c.in_ok-numbers.ensures.ok_part in
    read_next _ _ _ _ _ c.loop-k.invariant (room at) turn _ number

pub returns : goal.returns
returns c =
    let a = c.args in
    let at = (goal.at.returns c).At-loop-k in
    let all = read_last _ _ _ _ _ c.loop-k.invariant (room at) (omega arith) in
    let same : length c.as_chunks.result.0.now ≡ length (leading (length a.line.now / field_width) a.line.now) = omega (arith, all.1.0) in
    record {
      value = ap Ok same ∙ sym (room_answer a.limit a.line.now a.numbers.now (whole at) (room at) ∙ ap count_answer all.0);
      numbers_after = all.1.1 ∙ sym (room_over a.limit a.line.now a.numbers.now (whole at) (room at));
    }
