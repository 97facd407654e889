-- Zones, and what a place with no zone in use holds.
use Rattle.std.specs.Prelude.{ℕ, ◌+◌, ◌*◌, List, get_or, Float}
use Rattle.std.specs.Float.{nan}
use Rattle.relay_math.specs.Small.{f32_zero}
use Rattle.falcon_state.specs.declared.point.Point.{Point}
use Rattle.falcon_state.specs.declared.zone.Zone.{Zone}
use Rattle.falcon_state.specs.Point.{point_of, origin, nowhere}

abbrev pub zone_of : Point → Float → Zone
zone_of c r = record { center = c; radius = r }

-- what an unused place of the zones holds
abbrev pub no_zone : Zone
no_zone = zone_of origin f32_zero

-- what is read past the end of a list of zones
abbrev pub no_place : Zone
no_place = zone_of nowhere nan

-- "The supervisor's state holds sixteen points and eight zones by value."
abbrev pub max_keepout_zones : ℕ
max_keepout_zones = 8

-- how many numbers of a lent list are a zone: "centre (three) and radius"
abbrev pub zone_numbers_of : ℕ
zone_numbers_of = 4

-- zone i of a lent list
unfoldable pub zone_at_of : List Float → ℕ → Zone
zone_at_of l i =
    let at = zone_numbers_of * i in
    zone_of (point_of (get_or l at nan) (get_or l (at + 1) nan) (get_or l (at + 2) nan)) (get_or l (at + 3) nan)
