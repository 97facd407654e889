-- `read_plain` is `field_read` of the field: what its spaces end at decides. A turn of the loop is one digit.
use Rattle.columns.proofs.FieldTurns.{DigitsTo}
use Rattle.columns.proofs.field.read_plain.Given as goal

abbrev pub invariant-loop-b : goal.invariant-loop-b
invariant-loop-b l = DigitsTo l.number l.v l.b-index
