-- `exponent_range`: below the least normal number, above the largest, and between.
use Prim.Native.Nat.{ℕ, ◌-◌, ◌*◌, ◌+◌, ◌^◌, ◌≤◌, ◌<◌}
use mathlib.Core.Path.{◌≡◌, sym, ap, ◌∙◌}
use mathlib.Core.Bool.{false}
use native.Mathlib.Nat.{lt_of_le_of_lt}
use native.Mathlib.Omega.{arith}
use lib.Dec.{lit<, lit≤}
use lib.Ieee.{odd, of_bits}
use Rattle.relay_math.proofs.Rounding.{root_24, nearest_23, range_tiny, range_large, range_inside, small_is, packed_is}
use Rattle.relay_math.proofs.Scale.{odd_same}
use Rattle.std.proofs.lemmas.Float.{not_nan_f32_bits}
use Rattle.relay_math.specs.Root.{nearest_root_of}
use Rattle.relay_math.specs.declared.root.ExactRoot.{ExactRoot}
use Rattle.relay_math.proofs.root.ExactRoot.exponent_range.Goals as goal

-- the smallest values
few : (x : ExactRoot) {r : ℕ} → x.e < 24 → r ≡ nearest_root_of x.n (24 - x.e) → r ≤ 2 ^ 23
few x h e = rw e (nearest_23 x.n x.q (24 - x.e) (x.below, x.above) (root_24 x.n x.q x.least x.most (x.below, x.above)).1 (omega arith))

pub overflow_cast-result : goal.overflow_cast-result
overflow_cast-result c = omega (arith, few c.args.self c.if-self-lt-EMIN.true c.nearest_root.ensures)

pub float_from_bits-result : goal.float_from_bits-result
float_from_bits-result c = not_nan_f32_bits c.nearest_root.result (omega (arith, few c.args.self c.if-self-lt-EMIN.true c.nearest_root.ensures))

pub returns-then-self-lt-EMIN : goal.returns-then-self-lt-EMIN
returns-then-self-lt-EMIN c = let x = c.args.self in
    small_is c.nearest_root.result (lt_of_le_of_lt (few x c.if-self-lt-EMIN.true c.nearest_root.ensures) (lit< tt))
    ∙ ap (λ (a : ℕ). odd 25 false a 0 149) c.nearest_root.ensures
    ∙ sym (range_tiny x.n x.e x.least x.most (odd 25 false c.args.r x.e 173) c.if-self-lt-EMIN.true)

pub returns-then-self-gt-EMAX : goal.returns-then-self-gt-EMAX
unfolding of_bits
returns-then-self-gt-EMAX c = let x = c.args.self in
    sym (range_large x.n x.e x.least x.most c.args.r c.requires.0 c.requires.1 (lit≤ tt) (lit≤ tt) c.if-self-gt-EMAX.true)

pub float_from_bits-result-2 : goal.float_from_bits-result-2
float_from_bits-result-2 c = not_nan_f32_bits ((c.args.self.e - 24) * 8388608 + c.args.r) (omega arith)

pub returns : goal.returns
returns c = let x = c.args.self in
    let r = c.args.r in
    let p = c.requires in
    let l = c.if-self-lt-EMIN.false in
    let u = c.if-self-gt-EMAX.false in
    packed_is r (x.e - 24) p.0 p.1 (omega arith)
    ∙ odd_same 25 false r (x.e - 24) 149 x.e 173 (omega arith)
    ∙ sym (range_inside x.n x.e x.least x.most r p.0 p.1 (lit≤ tt) l u)
