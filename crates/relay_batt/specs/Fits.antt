-- The floats of a battery are f32 values: in definitions a float may be one that no f32 holds.
use Rattle.std.specs.Prelude.{T, Float}
use Rattle.std.specs.Float.{binary32}
use Rattle.std.specs.Float.Ieee.{fits}
use Rattle.relay_batt.specs.declared.config.BattConfig.{BattConfig}
use Rattle.relay_batt.specs.declared.estimator.BattState.{BattState}
use Rattle.relay_batt.specs.declared.estimator.BatteryEstimator.{BatteryEstimator}
use Rattle.relay_batt.specs.declared.battery.Battery.{Battery}
use Rattle.relay_batt.specs.declared.battery.Reading.{Reading}
use Rattle.relay_batt.specs.declared.battery.Reading.TheVariants.{Nothing, Volts, VoltsAmps}

-- an f32 holds it
abbrev pub Fit : Float → Type 0
Fit x = T (fits binary32 x)

-- those of a configuration
pub record FitBattConfig (c : BattConfig) : Type 0 where
  pub capacity : Fit c.capacity_mah
  pub internal : Fit c.r_internal
  pub low_soc : Fit c.low_soc
  pub crit_soc : Fit c.crit_soc
  pub low_fallback : Fit c.low_v_cell_fallback
  pub crit_fallback : Fit c.crit_v_cell_fallback
  pub debounce : Fit c.debounce_s

-- those of an estimator
pub record FitEstimator (e : BatteryEstimator) : Type 0 where
  pub config : FitBattConfig e.cfg
  pub used : Fit e.consumed_mah
  pub resistance : Fit e.r_est
  pub volts : Fit e.prev_v
  pub amps : Fit e.prev_i
  pub low_time : Fit e.low.below_s
  pub critical_time : Fit e.critical.below_s

-- those of a state shown
pub record FitState (s : BattState) : Type 0 where
  pub volts : Fit s.volts
  pub rest : Fit s.rest_volts
  pub amps : Fit s.current_a
  pub used : Fit s.consumed_mah
  pub charge : Fit s.soc
  pub resistance : Fit s.r_est

-- those of a battery
pub record FitBattery (b : Battery) : Type 0 where
  pub estimator : FitEstimator b.est
  pub shown : FitState b.state
  pub silence : Fit b.missing_s

-- the floats of a reading
abbrev pub FitReading : Reading → Type 0
FitReading Nothing = Unit {0}
FitReading (Volts volts) = Fit volts
FitReading (VoltsAmps volts amps) = Fit volts × Fit amps
