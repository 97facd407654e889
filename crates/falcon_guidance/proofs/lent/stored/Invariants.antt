-- After i turns as many of the first i places as there are items hold them, and the items after those are left.
use Rattle.std.proofs.Common.{◌≡◌, ◌*◌, ◌/◌, min, length, drop, replicate}
use Rattle.falcon_guidance.specs.Lent.{filled_of}
use Rattle.falcon_guidance.proofs.lent.stored.Given as goal

abbrev pub invariant-loop-place : goal.invariant-loop-place
invariant-loop-place g l =
    let numbers = g.T.Lent.NUMBERS in
    let k = min (length l.lent / numbers) l.place-index in
    (l.chunks.size ≡ numbers) × (l.chunks.rest.now ≡ drop (k * numbers) l.lent) × (l.place-items ≡ filled_of (g.T.Lent.at l.lent) k (replicate g.row.N g.T.Place.empty))
