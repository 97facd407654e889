-- `write_field` writes the digits from the last to the first into spaces, two a turn.
use Rattle.columns.proofs.Writing.{Partly}
use Rattle.columns.proofs.field.write_field.Given as goal

abbrev pub invariant-loop-at : goal.invariant-loop-at
invariant-loop-at l = Partly l.field l.n l.at-index l.rest
