-- Every row of document 01 that is marked P computes what it expects.
use mathlib.Core.Path.{◌≡◌, refl}
use mathlib.Core.Bool.{true}
use lib.Ieee.{of_bits, to_bits, units, add, sub, mul, lt, le}
use Rattle.relay_math.specs.Root.{root_by, whole_root_of, nearest_root_of, special_operands_of, unlimited_precision_of, to_digits, rounding, exponent_range_of, root_of}
use Rattle.relay_math.specs.Small.{clamp_of}
use Rattle.relay_batt.specs.Curve.{sanitize_of, knots, walk, table_of, ocv_soc_cell_of}
use Rattle.relay_fsm.specs.Fsm.{row_of, on_of}
use Rattle.relay_fsafe.specs.Fsafe.{graver_of, bump_of, policy_action_of}
use Rattle.relay_preflight.specs.Check.{all_checks}
use Rattle.relay_preflight.specs.Table.{bit_of, fails_of}
use Rattle.relay_preflight.specs.Verdict.{first_blocker_of}
use Rattle.falcon_guidance.specs.Geometry.{norm_of, distance_of}
use Rattle.falcon_guidance.specs.Mission.{waypoint_admissible_of}
use Rattle.examples.specs.Examples.{rows, agree}

twelve : agree rows ≡ true
unfolding rows agree of_bits to_bits units add sub mul lt le root_of special_operands_of unlimited_precision_of to_digits rounding exponent_range_of nearest_root_of whole_root_of root_by clamp_of sanitize_of knots walk table_of ocv_soc_cell_of row_of on_of graver_of bump_of policy_action_of all_checks bit_of fails_of first_blocker_of norm_of distance_of waypoint_admissible_of
twelve = refl
