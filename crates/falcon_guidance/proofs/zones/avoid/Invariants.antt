-- After i turns the setpoint is deflected around the first i zones.
use Rattle.std.proofs.Common.{◌≡◌}
use Rattle.falcon_guidance.specs.Zones.{around_all_of}
use Rattle.falcon_guidance.proofs.zones.avoid.Given as goal

abbrev pub invariant-loop-z : goal.invariant-loop-z
invariant-loop-z l = l.out ≡ around_all_of l.p l.g l.fn.zs l.z-index (record { x = l.sp.x; y = l.sp.y })
