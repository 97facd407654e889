-- A milestone gives ReachedAltitude only above the cruise height less 0.2 m and Touchdown only below 0.15 m; on a raised pad the height is 0, wherever it is.
use mathlib.Core.Bool.{Bool, true, false}
use mathlib.Core.Path.{◌≡◌, refl}
use lib.Dec.{T}
use lib.Ieee.{of_bits, lt}
use lib.Ieee.Scale.{finite}
use Rattle.std.specs.Prelude.{Some, None, Float}
use Rattle.std.proofs.lemmas.Option.{cond_some}
use Rattle.relay_math.specs.Small.{f32_zero}
use Rattle.relay_fsm.specs.declared.Mode.{Mode}
use Rattle.relay_fsm.specs.declared.Mode.TheVariants.{Takeoff, Mission, Land, Rtl}
use Rattle.relay_fsm.specs.declared.Event.TheVariants.{ReachedAltitude, ReachedHome, Touchdown}
use Rattle.falcon_state.specs.declared.point.Point.{Point}
use Rattle.falcon_state.specs.declared.config.Config.{Config}
use Rattle.falcon_state.specs.declared.mission.Mission.{Mission as MissionState}
use Rattle.falcon_state.specs.declared.config.OpeningKind.TheVariants.{Raised}
use Rattle.falcon_guidance.specs.Geometry.{height_of}
use Rattle.falcon_guidance.proofs.PadHeight.{raised_on_pad}
use Rattle.falcon_events.specs.Milestone.{high_of, near_ground_of, milestone_event, milestone_gives}

touchdown_by :
    (m : Mode) (high home low arrived more : Bool) → milestone_event m high home low arrived more ≡ Some Touchdown → low ≡ true
touchdown_by Takeoff high home low arrived more h = cc (cond_some high ReachedAltitude Touchdown h).1
touchdown_by Rtl high home low arrived more h = cc (cond_some home ReachedHome Touchdown h).1
touchdown_by Land high home low arrived more h = (cond_some low Touchdown Touchdown h).0
touchdown_by Mission high home low true true h = cc
touchdown_by Mission high home low true false h = cc
touchdown_by Mission high home low false more h = cc
touchdown_by m high home low arrived more h = cc

-- a tick that gives Touchdown is below 0.15
pub touchdown_low :
    (m : Mode) (c : Config) (s : MissionState) (here : Point) (dist_home alt_agl : Float) (p : Point)
    → milestone_gives m c s here dist_home alt_agl p ≡ Some Touchdown
    → near_ground_of alt_agl ≡ true
unfolding milestone_gives
touchdown_low m c s here dist_home alt_agl p h = touchdown_by m _ _ (near_ground_of alt_agl) _ _ h

altitude_by :
    (m : Mode) (high home low arrived more : Bool) → milestone_event m high home low arrived more ≡ Some ReachedAltitude → high ≡ true
altitude_by Takeoff high home low arrived more h = (cond_some high ReachedAltitude ReachedAltitude h).0
altitude_by Rtl high home low arrived more h = cc (cond_some home ReachedHome ReachedAltitude h).1
altitude_by Land high home low arrived more h = cc (cond_some low Touchdown ReachedAltitude h).1
altitude_by Mission high home low true true h = cc
altitude_by Mission high home low true false h = cc
altitude_by Mission high home low false more h = cc
altitude_by m high home low arrived more h = cc

-- a tick that gives ReachedAltitude is above the cruise height less 0.2
pub altitude_high :
    (m : Mode) (c : Config) (s : MissionState) (here : Point) (dist_home alt_agl : Float) (p : Point)
    → milestone_gives m c s here dist_home alt_agl p ≡ Some ReachedAltitude
    → high_of c alt_agl ≡ true
unfolding milestone_gives
altitude_high m c s here dist_home alt_agl p h = altitude_by m (high_of c alt_agl) _ _ _ _ h

-- in Land a tick on a raised pad gives Touchdown, wherever the pad is
pub pad_touchdown :
    (c : Config) (s : MissionState) (here : Point) (dist_home : Float) (p : Point)
    → c.opening_kind ≡ Raised
    → T (finite c.home.z)
    → p.z ≡ c.home.z
    → milestone_gives Land c s here dist_home (height_of c p) p ≡ Some Touchdown
unfolding milestone_gives near_ground_of of_bits lt
pad_touchdown c s here dist_home p e h q = rw (raised_on_pad c p e h q) refl

-- and in Takeoff none gives ReachedAltitude, unless a height of zero is above the cruise height less 0.2
pub pad_takeoff :
    (c : Config) (s : MissionState) (here : Point) (dist_home : Float) (p : Point)
    → c.opening_kind ≡ Raised
    → T (finite c.home.z)
    → p.z ≡ c.home.z
    → high_of c f32_zero ≡ false
    → milestone_gives Takeoff c s here dist_home (height_of c p) p ≡ None
unfolding milestone_gives
pad_takeoff c s here dist_home p e h q low = rw (raised_on_pad c p e h q, low) refl
