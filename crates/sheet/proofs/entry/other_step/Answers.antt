-- Points and zones are the floats of a line.
use Rattle.std.proofs.Common.{◌∙◌, ◌*◌, ap, sym, ℕ, List}
use Rattle.std.specs.Prelude.{Float}
use Rattle.std.specs.Float.{binary32}
use Rattle.std.specs.Float.Ieee.{of_bits}
use Rattle.relay_math.specs.Small.{number_at}
use Rattle.falcon_state.specs.Point.{point_numbers_of}
use Rattle.falcon_state.specs.Zone.{zone_numbers_of}
use Rattle.falcon_core.specs.Calls.{plans, points, zones, step_of}
use Rattle.requests.specs.declared.kinds.OtherCall.{OtherCall}
use Rattle.requests.specs.Kinds.{other_asks}
use Rattle.sheet.proofs.Floats.{lent_is}
use Rattle.sheet.proofs.entry.other_step.Goals as goal

pub returns-in-Points : goal.returns-in-Points
returns-in-Points c = let a = c.args in
    let ns = a.numbers.now in
    let step = λ (l : List Float). step_of a.s (plans (points l)) in
    c.set_mission_waypoints.ensures.answered
    ∙ ap step c.floats_of.ensures
    ∙ ap step (lent_is (of_bits binary32) ns (point_numbers_of * number_at ns 1) _ c.list_end.ensures)
    ∙ ap (λ (k : OtherCall). step_of a.s (other_asks ns k)) (sym c.in-Points.is)

pub returns-in-Zones : goal.returns-in-Zones
returns-in-Zones c = let a = c.args in
    let ns = a.numbers.now in
    let step = λ (l : List Float). step_of a.s (plans (zones l)) in
    c.set_keepout_zones.ensures.answered
    ∙ ap step c.floats_of-in-Zones.ensures
    ∙ ap step (lent_is (of_bits binary32) ns (zone_numbers_of * number_at ns 1) _ c.list_end-in-Zones.ensures)
    ∙ ap (λ (k : OtherCall). step_of a.s (other_asks ns k)) (sym c.in-Zones.is)
