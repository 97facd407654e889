-- `avoid`: the setpoint is deflected around the keep-out zones that the vehicle is near.
use Rattle.std.specs.Prelude.{ℕ, zero, suc, ◌/◌, min, Bool, cond, ◌&&◌, ◌||◌, List, length, get_or, replicate, Float}
use Rattle.std.specs.Float.{binary32}
use Rattle.std.specs.Float.Ieee.{add, sub, mul, div, neg, lt}
use Rattle.relay_math.specs.Root.{root}
use Rattle.relay_math.specs.Small.{f32, f32_zero, f32_one, max_of, clamp_of}
use Rattle.falcon_state.specs.declared.point.Point.{Point}
use Rattle.falcon_state.specs.declared.zone.Zone.{Zone}
use Rattle.falcon_state.specs.declared.zone.Zones.{Zones}
use Rattle.falcon_state.specs.declared.point.Horizontal.{Horizontal}
use Rattle.falcon_guidance.specs.declared.zones.Goal.{Goal}
use Rattle.falcon_guidance.specs.declared.zones.Bearing.{Bearing}
use Rattle.falcon_state.specs.Zone.{max_keepout_zones, zone_numbers_of, no_zone, no_place}
use Rattle.falcon_state.specs.Zone.{zone_at_of}
use Rattle.falcon_guidance.specs.Geometry.{norm_of}
use Rattle.falcon_guidance.specs.Lent.{filled_of}

-- `KEEPOUT_MARGIN` 1.6, `KEEPOUT_INFLUENCE` 4.0, `KEEPOUT_LOOKAHEAD` 3.0, and the least distance 1e-3
abbrev pub keepout_margin : Float
keepout_margin = f32 0x3fcc_cccd

abbrev pub keepout_influence : Float
keepout_influence = f32 0x4080_0000

abbrev pub keepout_lookahead : Float
keepout_lookahead = f32 0x4040_0000

abbrev pub min_distance : Float
min_distance = f32 0x3a83_126f

-- the unit vector from the vehicle toward the goal, and the distance to it
unfoldable pub goal_of : Point → Point → Goal
goal_of p sp =
    let gx = sub binary32 sp.x p.x in
    let gy = sub binary32 sp.y p.y in
    let glen = max_of (norm_of gx gy) min_distance in
    record { ux = div binary32 gx glen; uy = div binary32 gy glen; glen = glen }

-- from the zone to the vehicle: the vector, the distance `d` and the safe ring `safe`
unfoldable pub bearing_of : Point → Zone → Bearing
bearing_of p z =
    let rx = sub binary32 p.x z.center.x in
    let ry = sub binary32 p.y z.center.y in
    record { rx = rx; ry = ry; d = max_of (norm_of rx ry) min_distance; safe = add binary32 z.radius keepout_margin }

-- `along`: how far ahead of the vehicle the zone is on the way to the goal
unfoldable pub along_of : Goal → Bearing → Float
along_of g b = add binary32 (mul binary32 (neg b.rx) g.ux) (mul binary32 (neg b.ry) g.uy)

-- `perp`: how far beside the way it is
unfoldable pub perp_of : Bearing → Float → Float
perp_of b along =
    root
    (max_of
    (sub binary32 (add binary32 (mul binary32 b.rx b.rx) (mul binary32 b.ry b.ry)) (mul binary32 along along))
    f32_zero)

-- `obstructs`: ahead, before the goal, and laterally close
unfoldable pub obstructs_of : Goal → Bearing → Bool
obstructs_of g b =
    let along = along_of g b in
    lt f32_zero along && lt along (add binary32 g.glen b.safe) && lt (perp_of b along) (add binary32 b.safe keepout_influence)

-- the test of the deflection: `(obstructs && near) || d < safe`
unfoldable pub threatens_of : Goal → Bearing → Bool
threatens_of g b = obstructs_of g b && lt b.d (add binary32 b.safe keepout_influence) || lt b.d b.safe

-- `t`: the tangent to the outward radial `n`, signed toward the goal
unfoldable pub tangent_of : Goal → Horizontal → Horizontal
tangent_of g n =
    let tx = neg n.y in
    let ty = n.x in
    cond (lt (add binary32 (mul binary32 tx g.ux) (mul binary32 ty g.uy)) f32_zero)
    (record { x = neg tx; y = neg ty })
    (record { x = tx; y = ty })

-- `urgency`: from 0 at the edge of the influence to 1 at the safe ring
unfoldable pub urgency_of : Bearing → Float
urgency_of b = clamp_of (div binary32 (sub binary32 (add binary32 b.safe keepout_influence) b.d) keepout_influence) f32_zero f32_one

-- one coordinate of the deflected setpoint: `center + n * safe + t * KEEPOUT_LOOKAHEAD * urgency`
unfoldable pub ring_of : Float → Float → Float → Float → Float → Float
ring_of center n safe t urgency = add binary32 (add binary32 center (mul binary32 n safe)) (mul binary32 (mul binary32 t keepout_lookahead) urgency)

-- the point on the zone's safe ring that replaces the setpoint
unfoldable pub deflected_of : Goal → Zone → Bearing → Horizontal
deflected_of g z b =
    let n : Horizontal = record { x = div binary32 b.rx b.d; y = div binary32 b.ry b.d } in
    let t = tangent_of g n in
    record {
      x = ring_of z.center.x n.x b.safe t.x (urgency_of b);
      y = ring_of z.center.y n.y b.safe t.y (urgency_of b);
    }

-- the loop's body for one zone
unfoldable pub around_of : Point → Goal → Zone → Horizontal → Horizontal
around_of p g z out = let b = bearing_of p z in cond (threatens_of g b) (deflected_of g z b) out

-- the loop over the first n zones
unfoldable pub around_all_of : Point → Goal → Zones → ℕ → Horizontal → Horizontal
around_all_of p g zs zero out = out
around_all_of p g zs (suc n) out = around_of p g (get_or zs.zones n no_place) (around_all_of p g zs n out)

-- `avoid`: the height, `sp[2]`, is untouched
unfoldable pub avoid_of : Zones → Point → Point → Point
avoid_of zs p sp =
    let out = around_all_of p (goal_of p sp) zs (min zs.zone_count max_keepout_zones) (record { x = sp.x; y = sp.y }) in
    record { x = out.x; y = out.y; z = sp.z }

-- "Zones: the first 8, untested"
unfoldable pub zones_kept_of : List Float → ℕ
zones_kept_of l = min (length l / zone_numbers_of) max_keepout_zones

-- the first n zones of a lent list, each in its place, and no zone in every other
unfoldable pub stored_zones_of : List Float → ℕ → List Zone
stored_zones_of l n = filled_of (zone_at_of l) n (replicate max_keepout_zones no_zone)

-- `set_keepout_zones`
unfoldable pub loaded_zones_of : List Float → Zones
loaded_zones_of l = record { zones = stored_zones_of l (zones_kept_of l); zone_count = zones_kept_of l }
