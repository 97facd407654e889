-- `write_numbers` writes a field a turn, or nothing.
use Rattle.columns.proofs.Writing.{Wrote}
use Rattle.columns.proofs.field.write_numbers.Given as goal

abbrev pub invariant-loop-k : goal.invariant-loop-k
invariant-loop-k l = Wrote l.fn.out l.numbers l.out l.k
