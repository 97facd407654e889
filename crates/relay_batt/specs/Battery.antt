-- The battery of the supervisor: its fields `batt_..` and the battery paragraph of `step`.
use Rattle.std.specs.Prelude.{Bool, true, false, ◌&&◌, Some, None, List, [], ◌∷◌, Float}
use Rattle.std.specs.Float.{binary32}
use Rattle.std.specs.Float.Ieee.{add, lt}
use Rattle.relay_math.specs.Small.{f32_zero, f32_one}
use Rattle.relay_batt.specs.Estimator.{none_of, new_estimator_of, estimator_update_of}
use Rattle.relay_batt.specs.declared.config.BattConfig.{BattConfig}
use Rattle.relay_batt.specs.declared.estimator.Updated.{Updated}
use Rattle.relay_batt.specs.declared.battery.Battery.{Battery}
use Rattle.relay_batt.specs.declared.battery.Reading.{Reading}
use Rattle.relay_batt.specs.declared.battery.Reading.TheVariants.{Nothing, Volts, VoltsAmps}

-- the battery that `with_core` opens
unfoldable pub new_battery_of : BattConfig → Battery
new_battery_of cfg = record { est = new_estimator_of cfg; state = none_of; missing_s = f32_zero; present = false; seen = false }

-- "Otherwise the silence is 0 and the reference is `update`"
unfoldable pub heard_of : Updated → Battery
heard_of u = record { est = u.est; state = u.state; missing_s = f32_zero; present = true; seen = true }

-- the battery paragraph of `step`. "Nothing: the state shown stays, and dt as given is added to the silence"
unfoldable pub update_of : Battery → Float → Reading → Battery
update_of b dt Nothing = record b { missing_s = add binary32 b.missing_s dt; present = false }
update_of b dt (Volts volts) = heard_of (estimator_update_of b.est dt volts None)
update_of b dt (VoltsAmps volts amps) = heard_of (estimator_update_of b.est dt volts (Some amps))

-- `BATT_SILENCE_S`
abbrev pub batt_silence_s : Float
batt_silence_s = f32_one

-- "silence strictly above 1.0 s after one reading"
unfoldable pub lost_of : Battery → Bool
lost_of b = b.seen && lt batt_silence_s b.missing_s

-- one turn: the seconds and the reading
pub record Turn : Type 0 where
  pub dt : Float
  pub reading : Reading

-- a battery after a list of turns, first turn first
unfoldable pub run_of : Battery → List Turn → Battery
run_of b [] = b
run_of b (t ∷ l) = run_of (update_of b t.dt t.reading) l
