-- What holds of a battery at every place of a list of turns, as a record and as a test.
use Rattle.std.specs.Prelude.{◌≡◌, Bool, true, false, cond, not, T, List, [], ◌∷◌, ◌==◌, to_bits, Float}
use Rattle.std.specs.Bool.{beq}
use Rattle.std.specs.Float.{binary32}
use Rattle.std.specs.Float.Ieee.{fits}
use Rattle.std.specs.Float.Ieee.Scale.{finite}
use Rattle.relay_batt.specs.Bounds.{Within, within, all}
use Rattle.relay_math.specs.Small.{f32, f32_zero, f32_one}
use Rattle.relay_batt.specs.Config.{capacity_of}
use Rattle.relay_batt.specs.Estimator.{r_min, r_max, none_of}
use Rattle.relay_batt.specs.declared.estimator.BatteryEstimator.{BatteryEstimator}
use Rattle.relay_batt.specs.declared.estimator.BattState.{BattState}
use Rattle.relay_batt.specs.declared.battery.Battery.{Battery}

-- a finite f32
pub record Held (x : Float) : Type 0 where
  pub finite_here : T (finite x)
  pub fits_here : T (fits binary32 x)

-- "used 0..5000 mAh, estimated resistance 0.001..0.2", and what one `update` leaves for the next is finite
pub record SoundEstimator (e : BatteryEstimator) : Type 0 where
  pub used : Within f32_zero (capacity_of e.cfg) e.consumed_mah
  pub resistance : Within r_min r_max e.r_est
  pub volts_before : T (finite e.prev_v)
  pub amps_before : T (finite e.prev_i)
  pub low_time : Held e.low.below_s
  pub critical_time : Held e.critical.below_s

-- what is shown of a pack of a capacity: "Before a reading the state shown is all zero and false, so the resistance bound is then the estimator's alone."
pub record SoundState (capacity : Float) (seen : Bool) (s : BattState) : Type 0 where
  pub charge : Within f32_zero f32_one s.soc
  pub used : Within f32_zero capacity s.consumed_mah
  pub resistance : seen ≡ true → Within r_min r_max s.r_est
  pub nothing : seen ≡ false → s ≡ none_of

-- both, and each flag shown is its latch
pub record Sound (b : Battery) : Type 0 where
  pub estimator : SoundEstimator b.est
  pub shown : SoundState (capacity_of b.est.cfg) b.seen b.state
  pub low_shown : b.state.low ≡ b.est.low.latched
  pub critical_shown : b.state.critical ≡ b.est.critical.latched

-- ---- the same as a test

-- +0, by its pattern
abbrev pub plus_zero : Float → Bool
plus_zero x = to_bits binary32 x == 0

-- "all zero and false"
abbrev pub nothing_tests : BattState → List Bool
nothing_tests s =
    plus_zero s.volts
    ∷ plus_zero s.rest_volts
    ∷ plus_zero s.current_a
    ∷ plus_zero s.consumed_mah
    ∷ plus_zero s.soc
    ∷ plus_zero s.r_est
    ∷ not s.low
    ∷ not s.critical
    ∷ not s.degraded
    ∷ []

-- the tests of `SoundEstimator`, of `SoundState` and of the two flags
abbrev pub battery_tests : Battery → List Bool
battery_tests b =
    within f32_zero (capacity_of b.est.cfg) b.est.consumed_mah
    ∷ within r_min r_max b.est.r_est
    ∷ finite b.est.prev_v
    ∷ finite b.est.prev_i
    ∷ finite b.est.low.below_s
    ∷ finite b.est.critical.below_s
    ∷ within f32_zero f32_one b.state.soc
    ∷ within f32_zero (capacity_of b.est.cfg) b.state.consumed_mah
    ∷ cond b.seen (within r_min r_max b.state.r_est) (all (nothing_tests b.state))
    ∷ beq b.state.low b.est.low.latched
    ∷ beq b.state.critical b.est.critical.latched
    ∷ []

-- every test passes
unfoldable pub sound_battery_of : Battery → Bool
sound_battery_of b = all (battery_tests b)

-- "Bounds to be shown: charge 0..1, used 0..5000 mAh, estimated resistance 0.001..0.2", in the estimator and in the state shown. The numbers stand here and not by
-- the names of the limits: wrong limits would not be bounds
pub record InBounds (b : Battery) : Type 0 where
  pub charge : Within f32_zero f32_one b.state.soc
  pub used : Within f32_zero (f32 0x459c_4000) b.est.consumed_mah
  pub used_shown : Within f32_zero (f32 0x459c_4000) b.state.consumed_mah
  pub resistance : Within (f32 0x3a83_126f) (f32 0x3e4c_cccd) b.est.r_est
  pub resistance_shown : b.seen ≡ true → Within (f32 0x3a83_126f) (f32 0x3e4c_cccd) b.state.r_est
  pub unread : b.seen ≡ false → b.state ≡ none_of

-- every number shown is finite
pub record FiniteState (s : BattState) : Type 0 where
  pub volts : T (finite s.volts)
  pub rest : T (finite s.rest_volts)
  pub amps : T (finite s.current_a)
  pub used : T (finite s.consumed_mah)
  pub charge : T (finite s.soc)
  pub resistance : T (finite s.r_est)
