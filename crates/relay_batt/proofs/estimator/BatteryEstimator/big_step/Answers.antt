-- `big_step` is `big_step_of`: at floats `contains` is two tests of `le`.
use Rattle.std.proofs.Common.{◌≡◌, Bool, true, false, cond, ◌||◌, Some, None, refl}
use Rattle.std.specs.Ordering.{is_some_and, is_le, partial_le, float_partial_cmp}
use Rattle.std.specs.declared.cmp.Ordering.TheVariants.{Less, Equal, Greater}
use lib.Ieee.{Float, lt, eq, le}
use Rattle.relay_batt.specs.Estimator.{big_step_of}
use Rattle.relay_batt.proofs.estimator.BatteryEstimator.big_step.Goals as goal

at_floats : (x y : Float) → partial_le float_partial_cmp x y ≡ le x y
unfolding le
at_floats x y = go (lt x y) (eq x y) (lt y x)
  where
    go : (a b d : Bool) → is_some_and is_le (cond a (Some Less) (cond b (Some Equal) (cond d (Some Greater) None))) ≡ a || b
    go true b d = refl
    go false true d = refl
    go false false true = refl
    go false false false = refl

pub returns : goal.returns
unfolding big_step_of
returns c = let n = c.new.ensures in simp (c.contains.ensures.value, n.start, n.end, n.exhausted, at_floats)
