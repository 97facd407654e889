use Rattle.std.proofs.Common.{arith, refl}
use Rattle.daysheet.proofs.ReadParts.{reads_none, reads_more}
use Rattle.daysheet.proofs.read_all.Goals as goal

pub loop-init : goal.loop-init
loop-init c = record { short = omega arith; reads = reads_none _ _ c.new.ensures refl }

pub loop-preserved : goal.loop-preserved
loop-preserved c = record { short = c.turn-turned.result.begun.short; reads = reads_more _ _ _ _ c.loop.invariant.reads c.turn-turned.ensures }

pub returns-in_default : goal.returns-in_default
returns-in_default c = reads_more _ _ _ _ c.loop.invariant.reads c.turn-turned.ensures
