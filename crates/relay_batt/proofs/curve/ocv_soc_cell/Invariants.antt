-- `ocv_soc_cell` is `ocv_soc_cell_of`. The loop's invariant: what is found in the knots that are left is the answer.
use Rattle.std.proofs.Common.{◌≡◌}
use Rattle.std.specs.Slice.Iter.{windows_rest, windows_size}
use Rattle.std.specs.Slice.ArrayWindows.{array_windows_parts}
use Rattle.relay_batt.specs.Curve.{ocv_soc_cell_of}
use Rattle.relay_batt.proofs.Walk.{rest}
use Rattle.relay_batt.proofs.curve.ocv_soc_cell.Given as goal

abbrev pub invariant-loop-k0 : goal.invariant-loop-k0
invariant-loop-k0 l = let w = array_windows_parts l.k0-iterator in (windows_size w ≡ 2) × (rest l.v (windows_rest w) ≡ ocv_soc_cell_of l.v_cell)
