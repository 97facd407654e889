-- Distances, the height, and the fence.
use Rattle.std.specs.Prelude.{Bool, Float}
use Rattle.std.specs.Float.{binary32}
use Rattle.std.specs.Float.Ieee.{add, mul, sub, neg, lt}
use Rattle.relay_math.specs.Root.{root}
use Rattle.falcon_state.specs.declared.point.Point.{Point}
use Rattle.falcon_state.specs.declared.config.Config.{Config}
use Rattle.falcon_state.specs.declared.config.OpeningKind.{OpeningKind}
use Rattle.falcon_state.specs.declared.config.OpeningKind.TheVariants.{Ground, Raised}

-- the norm of a horizontal vector: `sqrtf(x * x + y * y)`
unfoldable pub norm_of : Float → Float → Float
norm_of x y = root (add binary32 (mul binary32 x x) (mul binary32 y y))

-- the horizontal distance of two points: `dx` and `dy` are the first less the second
unfoldable pub distance_of : Point → Point → Float
distance_of p q = norm_of (sub binary32 p.x q.x) (sub binary32 p.y q.y)

-- `wd`: the distance of two points
unfoldable pub distance3_of : Point → Point → Float
distance3_of p q =
    let dx = sub binary32 p.x q.x in
    let dy = sub binary32 p.y q.y in
    let dz = sub binary32 p.z q.z in
    root (add binary32 (add binary32 (mul binary32 dx dx) (mul binary32 dy dy)) (mul binary32 dz dz))

-- the pad's z less x, home being at z: U5: "Kind 1 goes on as the Rust does", which is `-x`; with kind 10 the pad is where home is
unfoldable pub pad_less_of : OpeningKind → Float → Float → Float
pad_less_of Ground z x = neg x
pad_less_of Raised z x = sub binary32 z x

-- `alt_agl`: "Height is `−p[2]`." U5: "measures height as `home[2] − p[2]`"
unfoldable pub height_of : Config → Point → Float
height_of c p = pad_less_of c.opening_kind c.home.z p.z

-- `outside_geofence`: `dist_home` is greater than the fence radius
abbrev pub outside_geofence_of : Config → Float → Bool
outside_geofence_of c dist_home = lt c.fence_radius dist_home
