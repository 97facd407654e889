-- `TripLatch` of relay-batt.
use Rattle.std.specs.Prelude.{Bool, false, cond, Float}
use Rattle.std.specs.Float.{binary32}
use Rattle.std.specs.Float.Ieee.{add, le}
use Rattle.relay_math.specs.Small.{f32_zero}
use Rattle.relay_batt.specs.declared.latch.TripLatch.{TripLatch}

-- `TripLatch::default`
abbrev pub new_latch_of : TripLatch
new_latch_of = record { below_s = f32_zero; latched = false }

-- an excursion that goes on: it trips where it has lasted `debounce` seconds
abbrev pub excursion_of : Float → Float → TripLatch
excursion_of s debounce = record { below_s = s; latched = le debounce s }

-- `TripLatch::update`: "never release"
unfoldable pub trip_of : TripLatch → Float → Bool → Float → TripLatch
trip_of l dt below debounce = cond l.latched l (cond below (excursion_of (add binary32 l.below_s dt) debounce) new_latch_of)
