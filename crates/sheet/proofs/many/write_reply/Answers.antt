use Prim.Native.Nat.{◌+◌, ◌-◌, ◌*◌}
use native.Mathlib.Omega.{arith}
use mathlib.Core.Path.{◌∙◌}
use lib.ListN.{length, take, drop, length-take, length-drop}
use Rattle.columns.specs.Field.{field_width}
use Rattle.columns.specs.Line.{line_of}
use Rattle.columns.proofs.Writing.{length_line}
use Rattle.requests.proofs.Buffer.{written_fits}
use Rattle.sheet.specs.Lines.{newline}
use Rattle.sheet.proofs.LinesTurns.{placed_line}
use Rattle.sheet.proofs.many.write_reply.Goals as goal

pub returns : goal.returns
returns c = let a = c.args in
    let call = c.write_numbers in
    let ns = a.numbers.now in
    let d = a.out.now in
    let room = c.requires in
    record {
      value = omega arith;
      out_after =
          placed_line d a.at (a.at + field_width * length ns) call.new.out (line_of ns) newline (omega (arith, length_line ns)) (omega (arith, room))
          (call.ensures ∙ written_fits ns (take (length d - a.at) (drop a.at d)) (omega (arith, room, length-take (length d - a.at) (drop a.at d), length-drop a.at d)));
    }
