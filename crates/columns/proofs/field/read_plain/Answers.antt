-- A turn of `read_plain`'s loop is one digit.
use Rattle.columns.proofs.FieldTurns.{digits_next}
use Rattle.columns.proofs.field.read_plain.Goals as goal

pub loop-b-preserved : goal.loop-b-preserved
loop-b-preserved c = digits_next _ _ _ _ c.loop-b-test.true c.in_ok-v.ensures c.loop-b.invariant
