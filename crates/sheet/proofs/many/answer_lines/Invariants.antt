use Rattle.std.proofs.Common.{◌-◌, ◌≤◌, ◌≡◌, length}
use Rattle.falcon_state.specs.Point.{max_waypoints}
use Rattle.sheet.specs.Many.{state_of}
use Rattle.sheet.proofs.LinesTurns.{AfterLines}
use Rattle.sheet.proofs.many.answer_lines.Given as goal

abbrev pub invariant-loop-end : goal.invariant-loop-end
invariant-loop-end l = record {
  after : AfterLines (state_of l.initial.flown l.initial.waypoints) l.input l.fn.out (state_of l.flown l.waypoints) l.used l.written l.lines l.out;
  room : l.written ≤ length l.fn.out;
  places : length l.waypoints ≡ max_waypoints;
}

abbrev pub decreases-loop-end : goal.decreases-loop-end
decreases-loop-end l = length l.input - l.used
