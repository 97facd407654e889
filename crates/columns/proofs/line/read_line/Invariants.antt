-- `read_line` is `line_answer` and `numbers_over`: the length and the places are tried first, and then a turn reads a field.
use Rattle.std.proofs.Common.{◌/◌, length}
use Rattle.columns.specs.Field.{field_width}
use Rattle.columns.proofs.LineTurns.{ReadTo}
use Rattle.columns.proofs.line.read_line.Given as goal

abbrev pub invariant-loop-k : goal.invariant-loop-k
invariant-loop-k l = ReadTo l.line (length l.line / field_width) l.fn.numbers l.numbers l.k
