-- The bytes passed have no newline.
use Rattle.std.proofs.Common.{◌≡◌, ◌+◌, ◌-◌, ◌≤◌, length, drop}
use Rattle.sheet.specs.Lines.{line_end}
use Rattle.sheet.proofs.lines.find_newline.Given as goal

abbrev pub invariant-loop-block : goal.invariant-loop-block
invariant-loop-block l =
    (length l.behind ≤ length l.input)
    × (l.from + line_end (drop l.from l.input) ≡ length l.input - length l.behind + line_end l.behind)

abbrev pub decreases-loop-block : goal.decreases-loop-block
decreases-loop-block l = length l.behind
