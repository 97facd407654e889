-- `sqrtf`: a special operand's own rule, or the three steps after it, each the definition's.
use Rattle.std.proofs.Common.{sym, ap, ◌∙◌, lit<}
use lib.Ieee.{binary32}
use native.Mathlib.Nat.{lt_of_lt_of_le, mul-pos}
use Rattle.relay_math.specs.Root.{unlimited_precision_of, rounding, exponent_range_of}
use Rattle.relay_math.specs.RootCode.{exact_of}
use Rattle.relay_math.proofs.Scale.{four_pos, same_rounding, same_range}
use Rattle.relay_math.proofs.Special.{root_special, root_above}
use Rattle.relay_math.proofs.root.sqrtf.Goals as goal

pub returns-in-Some : goal.returns-in-Some
returns-in-Some c = root_special c.args.x c.in-Some.r (sym c.in-Some.ensures)

pub returns : goal.returns
returns c = let x = c.args.x in
    let exact = c.unlimited_precision-exact.result in
    let same = c.unlimited_precision-exact.ensures in
    c.exponent_range.ensures
    ∙ ap (exponent_range_of binary32 (exact_of exact)) c.rounding.ensures.2
    ∙ sym (same_range binary32 (unlimited_precision_of x) (exact_of exact) same (rounding binary32 (exact_of exact)))
    ∙ ap (exponent_range_of binary32 (unlimited_precision_of x)) (sym (same_rounding binary32 (unlimited_precision_of x) (exact_of exact) same (mul-pos (lt_of_lt_of_le (lit< tt) exact.least) (four_pos exact.e))))
    ∙ root_above x (sym c.in_default.ensures)
