-- `whole_root`: after the steps q is no less than the root, and the loop takes off what is too much. The invariant: n < (q + 1) * (q + 1). The measure: q.
use Prim.Native.Nat.{◌+◌, ◌*◌, ◌<◌}
use Rattle.relay_math.proofs.root.Digits48.whole_root.Given as goal

abbrev pub invariant-loop-q : goal.invariant-loop-q
invariant-loop-q l = (l.q < 0x800_0000) × (l.self.n < (l.q + 1) * (l.q + 1))

abbrev pub decreases-loop-q : goal.decreases-loop-q
decreases-loop-q l = l.q
