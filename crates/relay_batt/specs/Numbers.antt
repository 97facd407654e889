-- The battery without its pack as 21 numbers: the estimator, what is shown, and the silence with its two flags. The record has them, and the harness's exports.
use Rattle.std.specs.Prelude.{ℕ, List, [], ◌∷◌, ◌++◌, ◌==◌}
use Rattle.relay_math.specs.Small.{f32, flag_number, bits}
use Rattle.relay_batt.specs.declared.config.BattConfig.{BattConfig}
use Rattle.relay_batt.specs.declared.estimator.BattState.{BattState}
use Rattle.relay_batt.specs.declared.estimator.BatteryEstimator.{BatteryEstimator}
use Rattle.relay_batt.specs.declared.battery.Battery.{Battery}

-- used, resistance, volts and amps before and whether there were any, and the two latches with their seconds below
unfoldable pub estimator_numbers_of : BatteryEstimator → List ℕ
estimator_numbers_of e =
    bits e.consumed_mah
    ∷ bits e.r_est
    ∷ bits e.prev_v
    ∷ bits e.prev_i
    ∷ flag_number e.have_prev
    ∷ bits e.low.below_s
    ∷ flag_number e.low.latched
    ∷ bits e.critical.below_s
    ∷ flag_number e.critical.latched
    ∷ []

-- the state shown
unfoldable pub state_numbers_of : BattState → List ℕ
state_numbers_of s =
    bits s.volts
    ∷ bits s.rest_volts
    ∷ bits s.current_a
    ∷ bits s.consumed_mah
    ∷ bits s.soc
    ∷ bits s.r_est
    ∷ flag_number s.low
    ∷ flag_number s.critical
    ∷ flag_number s.degraded
    ∷ []

-- the silence, whether the last tick had a reading, whether any had
unfoldable pub silence_numbers_of : Battery → List ℕ
silence_numbers_of b = bits b.missing_s ∷ flag_number b.present ∷ flag_number b.seen ∷ []

-- all of them
unfoldable pub battery_numbers_of : Battery → List ℕ
battery_numbers_of b = estimator_numbers_of b.est ++ (state_numbers_of b.state ++ silence_numbers_of b)

-- ---- and had back from them, number k being n k

-- the estimator of a pack, numbers 0 to 8
unfoldable pub estimator_by : BattConfig → (ℕ → ℕ) → BatteryEstimator
estimator_by pack n = record {
  cfg = pack;
  consumed_mah = f32 (n 0);
  r_est = f32 (n 1);
  prev_v = f32 (n 2);
  prev_i = f32 (n 3);
  have_prev = n 4 == 1;
  low = record { below_s = f32 (n 5); latched = n 6 == 1 };
  critical = record { below_s = f32 (n 7); latched = n 8 == 1 };
}

-- the state shown, numbers 9 to 17
unfoldable pub state_by : (ℕ → ℕ) → BattState
state_by n = record {
  volts = f32 (n 9);
  rest_volts = f32 (n 10);
  current_a = f32 (n 11);
  consumed_mah = f32 (n 12);
  soc = f32 (n 13);
  r_est = f32 (n 14);
  low = n 15 == 1;
  critical = n 16 == 1;
  degraded = n 17 == 1;
}

-- the battery of a pack
unfoldable pub battery_by : BattConfig → (ℕ → ℕ) → Battery
battery_by pack n = record { est = estimator_by pack n; state = state_by n; missing_s = f32 (n 18); present = n 19 == 1; seen = n 20 == 1 }
