-- `ocv_soc_cell` is `ocv_soc_cell_of`: a turn takes the first two of the knots that are left, and drops one.
use Rattle.std.proofs.Common.{◌≤◌, length, ◌∙◌}
use Rattle.std.specs.Slice.Iter.{windows_rest}
use Rattle.std.specs.Slice.ArrayWindows.{array_windows_parts}
use Rattle.relay_batt.proofs.Walk.{found, passed, ended}
use Rattle.relay_batt.proofs.curve.ocv_soc_cell.Goals as goal

pub returns-then-v-k1 : goal.returns-then-v-k1
returns-then-v-k1 c = let v = c.sanitize-v.result in
    let w = array_windows_parts c.loop-k0.k0-iterator in
    let s = c.in-Some.ensures.steps in
    let two = c.loop-k0.invariant.0 in
    let long : 2 ≤ length (windows_rest w) = rw two at s.1.0 in
    let pair = rw two at s.1.1 in
    c.segment.ensures
    ∙ rw pair (found v (windows_rest w) long (rw pair at c.if-v-k1.true))
    ∙ c.loop-k0.invariant.1

pub loop-k0-preserved : goal.loop-k0-preserved
loop-k0-preserved c = let v = c.sanitize-v.result in
    let w = array_windows_parts c.loop-k0.k0-iterator in
    let s = c.in-Some.ensures.steps in
    let two = c.loop-k0.invariant.0 in
    let long : 2 ≤ length (windows_rest w) = rw two at s.1.0 in
    let pair = rw two at s.1.1 in
    (s.0 ∙ two, rw s.1.2 (passed v (windows_rest w) long (rw pair at c.if-v-k1.false)) ∙ c.loop-k0.invariant.1)

pub returns : goal.returns
returns c = let w = array_windows_parts c.loop-k0.k0-iterator in
    let s = c.in-None.ensures.steps in
    ended c.sanitize-v.result (windows_rest w) (rw c.loop-k0.invariant.0 at s.1.0) ∙ c.loop-k0.invariant.1
