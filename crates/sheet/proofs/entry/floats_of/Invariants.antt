-- After k turns the first k numbers are floats.
use Rattle.std.proofs.Common.{◌≡◌, length, map, take}
use Rattle.std.specs.Float.{binary32}
use Rattle.std.specs.Float.Ieee.{of_bits}
use Rattle.requests.specs.declared.parse.TheConstants.{NUMBER_PLACES}
use Rattle.sheet.proofs.entry.floats_of.Given as goal

abbrev pub invariant-loop-k : goal.invariant-loop-k
invariant-loop-k l = record {
  read : take l.k l.floats ≡ map (of_bits binary32) (take l.k l.numbers);
  room : length l.floats ≡ NUMBER_PLACES;
}
