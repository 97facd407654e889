use Rattle.std.proofs.Common.{◌-◌, ◌≡◌, length}
use Rattle.daysheet.specs.declared.TheConstants.{ROOM}
use Rattle.daysheet.proofs.Draining.{Drains}
use Rattle.daysheet.proofs.drain.Given as goal

abbrev pub invariant-loop-progress : goal.invariant-loop-progress
invariant-loop-progress l = record {
  drains : Drains l.initial.supervisor l.input l.supervisor l.used;
  room : length l.out ≡ ROOM;
}

abbrev pub decreases-loop-progress : goal.decreases-loop-progress
decreases-loop-progress l = length l.input - l.used
