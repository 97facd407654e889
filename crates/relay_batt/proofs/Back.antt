-- A battery is had back from its numbers.
use Rattle.std.proofs.Common.{◌≡◌, ℕ, List, ◌++◌, get_or}
use Rattle.relay_math.proofs.Laws.{read_back, flag_back}
use Rattle.relay_batt.specs.declared.battery.Battery.{Battery}
use Rattle.relay_batt.specs.Fits.{FitBattery}
use Rattle.relay_batt.specs.Numbers.{estimator_numbers_of, state_numbers_of, silence_numbers_of, battery_numbers_of, estimator_by, state_by, battery_by}

-- those of a battery whose floats are f32 values, whatever stands behind them
pub battery_back : (b : Battery) (rest : List ℕ) → FitBattery b → battery_by b.est.cfg (λ k. get_or (battery_numbers_of b ++ rest) k 0) ≡ b
unfolding battery_by estimator_by state_by battery_numbers_of estimator_numbers_of state_numbers_of silence_numbers_of
battery_back b rest f =
    let e = b.est in
    let s = b.state in
    let k = f.estimator in
    let t = f.shown in
    λ i. record {
      est = record {
        cfg = e.cfg;
        consumed_mah = read_back e.consumed_mah k.used i;
        r_est = read_back e.r_est k.resistance i;
        prev_v = read_back e.prev_v k.volts i;
        prev_i = read_back e.prev_i k.amps i;
        have_prev = flag_back e.have_prev i;
        low = record { below_s = read_back e.low.below_s k.low_time i; latched = flag_back e.low.latched i };
        critical = record { below_s = read_back e.critical.below_s k.critical_time i; latched = flag_back e.critical.latched i };
      };
      state = record {
        volts = read_back s.volts t.volts i;
        rest_volts = read_back s.rest_volts t.rest i;
        current_a = read_back s.current_a t.amps i;
        consumed_mah = read_back s.consumed_mah t.used i;
        soc = read_back s.soc t.charge i;
        r_est = read_back s.r_est t.resistance i;
        low = flag_back s.low i;
        critical = flag_back s.critical i;
        degraded = flag_back s.degraded i;
      };
      missing_s = read_back b.missing_s f.silence i;
      present = flag_back b.present i;
      seen = flag_back b.seen i;
    }
