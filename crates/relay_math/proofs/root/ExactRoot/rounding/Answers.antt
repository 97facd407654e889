-- `rounding`: up where n is above q * q + q, which stays below 2 ^ 24.
use Prim.Native.Nat.{◌^◌, ◌≤◌, ◌<◌}
use mathlib.Core.Path.{sym, ap, ◌∙◌}
use mathlib.Core.Bool.{false}
use native.Mathlib.Nat.{le_trans, le-add_right}
use native.Mathlib.Omega.{arith}
use lib.Ieee.{odd}
use Rattle.relay_math.proofs.Rounding.{root_24, nearest_down, nearest_up, rounding_at}
use Rattle.relay_math.specs.declared.root.ExactRoot.{ExactRoot}
use Rattle.relay_math.proofs.root.ExactRoot.rounding.Goals as goal

fits : (x : ExactRoot) → (2 ^ 23 ≤ x.q) × (x.q < 2 ^ 24)
fits x = root_24 x.n x.q x.least x.most (x.below, x.above)

pub returns-then-self : goal.returns-then-self
returns-then-self c = let x = c.args.self in
    let u = nearest_up x.n x.q x.most (x.below, x.above) (omega arith) in
    (le_trans (fits x).0 (le-add_right x.q 1), u.1, ap (λ r. odd 25 false r x.e 173) (sym u.0) ∙ sym (rounding_at x.n x.e x.least x.most))

pub returns : goal.returns
returns c = let x = c.args.self in
    let d = nearest_down x.n x.q (x.below, x.above) (omega arith) in
    ((fits x).0, (fits x).1, ap (λ r. odd 25 false r x.e 173) (sym d) ∙ sym (rounding_at x.n x.e x.least x.most))
