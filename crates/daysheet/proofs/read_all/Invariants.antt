-- Here `begun` is taken apart: the state, and how many bytes are at hand.
use Rattle.std.proofs.Common.{◌≤◌, take}
use Rattle.sheet.specs.Lines.{kept_width}
use Rattle.daysheet.specs.Reader.{ReadsAll}
use Rattle.daysheet.proofs.read_all.Given as goal

abbrev pub invariant-loop : goal.invariant-loop
invariant-loop l = record {
  short : l.begun.1.0 ≤ kept_width;
  reads : ReadsAll l.begun.0 (take l.begun.1.0 l.buf);
}
