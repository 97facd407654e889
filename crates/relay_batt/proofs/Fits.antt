-- The floats of a battery stay f32 values: each operation's result is one, so only the readings that are cut and what is kept need a word.
use Rattle.std.proofs.Common.{ℕ, Bool, cond, ◌&&◌, List, [], ◌∷◌}
use lib.Ieee.{Float, binary32, sub, le, lt}
use lib.Ieee.Bits.{of_bits-fits}
use lib.Ieee.Fits.{cond-fits, add-fits, sub-fits, div-fits}
use lib.Ieee.Scale.{finite}
use Rattle.relay_math.specs.Small.{f32, f32_zero, f32_one, clamp_of}
use Rattle.relay_batt.specs.Curve.{sanitize_of, knots, between, walk, table_of, cell_max, ocv_soc_cell_of}
use Rattle.relay_batt.specs.Config.{default_of, for_pack_of, capacity_of, per_cell_of}
use Rattle.relay_batt.specs.Latch.{trip_of}
use Rattle.relay_batt.specs.Estimator.{v_max, i_max, r_min, r_max, none_of, shown_of, new_estimator_of, consumed_of, big_step_of, blend_of, r_est_of, rest_volts_of, soc_coulomb_of, soc_of, with_amps_of, volts_only_of, cut_dt, cut_volts, cut_amps, cut_resistance, estimator_update_of}
use Rattle.relay_batt.specs.Battery.{new_battery_of, heard_of, update_of}
use Rattle.relay_batt.specs.Fits.{Fit, FitBattConfig, FitEstimator, FitBattery, FitReading}
use Rattle.relay_batt.specs.declared.curve.Knot.{Knot}
use Rattle.relay_batt.specs.declared.config.BattConfig.{BattConfig}
use Rattle.relay_batt.specs.declared.latch.TripLatch.{TripLatch}
use Rattle.relay_batt.specs.declared.estimator.BatteryEstimator.{BatteryEstimator}
use Rattle.relay_batt.specs.declared.battery.Battery.{Battery}
use Rattle.relay_batt.specs.declared.battery.Reading.{Reading}
use Rattle.relay_batt.specs.declared.battery.Reading.TheVariants.{Nothing, Volts, VoltsAmps}
use Rattle.relay_batt.proofs.Trip.{trip_holds}

zero_fits : Fit f32_zero
zero_fits = of_bits-fits binary32 0

one_fits : Fit f32_one
one_fits = of_bits-fits binary32 0x3f80_0000

clamp_fits : (x lo hi : Float) → Fit x → Fit lo → Fit hi → Fit (clamp_of x lo hi)
unfolding clamp_of
clamp_fits x lo hi p q r = cond-fits binary32 (lt x lo) lo (cond (lt hi x) hi x) q (cond-fits binary32 (lt hi x) hi x r p)

pub sanitize_fits : (x lo hi d : Float) → Fit x → Fit lo → Fit hi → Fit d → Fit (sanitize_of x lo hi d)
unfolding sanitize_of
sanitize_fits x lo hi d p q r s = clamp_fits (cond (finite x) x d) lo hi (cond-fits binary32 (finite x) x d p s) q r

-- ---- the curve
walk_fits : (v : Float) (a : Knot) (l : List Knot) → Fit (walk v a l)
unfolding walk
walk_fits v a [] = one_fits
walk_fits v a (b ∷ l) = cond-fits binary32 (le v b.v) (between a b v) (walk v b l) (add-fits binary32 a.s _) (walk_fits v b l)

table_fits : (l : List Knot) (v : Float) → Fit (table_of l v)
unfolding table_of
table_fits [] v = zero_fits
table_fits (a ∷ l) v = cond-fits binary32 (le v a.v) f32_zero (walk v a l) zero_fits (walk_fits v a l)

pub curve_fits : (v : Float) → Fit (ocv_soc_cell_of v)
unfolding ocv_soc_cell_of
curve_fits v = table_fits knots (sanitize_of v f32_zero cell_max f32_zero)

-- ---- the parts of `update`
capacity_fits : (c : BattConfig) → FitBattConfig c → Fit (capacity_of c)
unfolding capacity_of
capacity_fits c f = sanitize_fits c.capacity_mah f32_one (f32 0x4974_2400) (f32 0x459c_4000) f.capacity one_fits (of_bits-fits binary32 _) (of_bits-fits binary32 _)

cut_volts_fits : (volts : Float) → Fit volts → Fit (cut_volts volts)
cut_volts_fits volts f = sanitize_fits volts f32_zero v_max f32_zero f zero_fits (of_bits-fits binary32 _) zero_fits

cut_amps_fits : (amps : Float) → Fit amps → Fit (cut_amps amps)
cut_amps_fits amps f = sanitize_fits amps f32_zero i_max f32_zero f zero_fits (of_bits-fits binary32 _) zero_fits

r_fits : (r : Float) → Fit r → Fit (cut_resistance r)
r_fits r f = sanitize_fits r r_min r_max (f32 0x3cc4_9ba6) f (of_bits-fits binary32 _) (of_bits-fits binary32 _) (of_bits-fits binary32 _)

trip_fits : (l : TripLatch) (dt : Float) (below : Bool) (debounce : Float) → Fit l.below_s → Fit (trip_of l dt below debounce).below_s
trip_fits l dt below debounce h = trip_holds (λ (x : TripLatch). Fit x.below_s) l dt below debounce h (add-fits binary32 l.below_s dt) zero_fits

consumed_fits : (e : BatteryEstimator) (dt i : Float) → FitBattConfig e.cfg → Fit (consumed_of e dt i)
unfolding consumed_of
consumed_fits e dt i f =
    let cap = capacity_of e.cfg in
    let c = capacity_fits e.cfg f in
    sanitize_fits _ f32_zero cap cap (add-fits binary32 e.consumed_mah _) zero_fits c c

blend_fits : (r dv di : Float) → Fit (blend_of r dv di)
unfolding blend_of
blend_fits r dv di = r_fits _ (add-fits binary32 r _)

r_est_fits : (e : BatteryEstimator) (v i : Float) → Fit e.r_est → Fit (r_est_of e v i)
unfolding r_est_of
r_est_fits e v i f =
    let di = sub binary32 i e.prev_i in
    let dv = sub binary32 v e.prev_v in
    cond-fits binary32 (e.have_prev && big_step_of di) (blend_of e.r_est dv di) e.r_est (blend_fits e.r_est dv di) f

rest_fits : (v i r : Float) → Fit (rest_volts_of v i r)
unfolding rest_volts_of
rest_fits v i r = cut_volts_fits _ (add-fits binary32 v _)

coulomb_fits : (c : BattConfig) (used : Float) → Fit (soc_coulomb_of c used)
unfolding soc_coulomb_of
coulomb_fits c used = sanitize_fits _ f32_zero f32_one f32_zero (sub-fits binary32 f32_one _) zero_fits one_fits zero_fits

soc_fits : (c : BattConfig) (used rest : Float) → Fit (soc_of c used rest)
unfolding soc_of
soc_fits c used rest =
    let cell = per_cell_of c.cells rest in
    cond-fits binary32 (lt (soc_coulomb_of c used) (ocv_soc_cell_of cell)) (soc_coulomb_of c used) (ocv_soc_cell_of cell) (coulomb_fits c used) (curve_fits cell)

-- ---- the battery
amps_fits : (e : BatteryEstimator) (dt v i : Float) → FitEstimator e → Fit v → Fit i → FitBattery (heard_of (with_amps_of e dt v i))
unfolding heard_of with_amps_of shown_of
amps_fits e dt v i f p q =
    let used = consumed_fits e dt i f.config in
    let r = r_est_fits e v i f.resistance in
    record {
      estimator = record {
        config = f.config;
        used = used;
        resistance = r;
        volts = p;
        amps = q;
        low_time = trip_fits e.low dt _ _ f.low_time;
        critical_time = trip_fits e.critical dt _ _ f.critical_time;
      };
      shown = record { volts = p; rest = rest_fits v i _; amps = q; used = used; charge = soc_fits e.cfg _ _; resistance = r };
      silence = zero_fits;
    }

volts_fits : (e : BatteryEstimator) (dt v : Float) → FitEstimator e → Fit v → FitBattery (heard_of (volts_only_of e dt v))
unfolding heard_of volts_only_of shown_of
volts_fits e dt v f p = record {
  estimator = record {
    config = f.config;
    used = f.used;
    resistance = f.resistance;
    volts = f.volts;
    amps = f.amps;
    low_time = trip_fits e.low dt _ _ f.low_time;
    critical_time = trip_fits e.critical dt _ _ f.critical_time;
  };
  shown = record { volts = p; rest = p; amps = zero_fits; used = f.used; charge = curve_fits _; resistance = f.resistance };
  silence = zero_fits;
}

pub fits_update : (b : Battery) (dt : Float) (r : Reading) → FitBattery b → FitReading r → FitBattery (update_of b dt r)
unfolding update_of estimator_update_of
fits_update b dt Nothing f g = record { estimator = f.estimator; shown = f.shown; silence = add-fits binary32 b.missing_s dt }
fits_update b dt (Volts volts) f g = volts_fits b.est (cut_dt dt) (cut_volts volts) f.estimator (cut_volts_fits volts g)
fits_update b dt (VoltsAmps volts amps) f g = amps_fits b.est (cut_dt dt) (cut_volts volts) (cut_amps amps) f.estimator (cut_volts_fits volts g.0) (cut_amps_fits amps g.1)

pub fits_new : (c : BattConfig) → FitBattConfig c → FitBattery (new_battery_of c)
unfolding new_battery_of new_estimator_of none_of
fits_new c f = record {
  estimator = record { config = f; used = zero_fits; resistance = r_fits c.r_internal f.internal; volts = zero_fits; amps = zero_fits; low_time = zero_fits; critical_time = zero_fits };
  shown = record { volts = zero_fits; rest = zero_fits; amps = zero_fits; used = zero_fits; charge = zero_fits; resistance = zero_fits };
  silence = zero_fits;
}

pub fits_pack : (cells : ℕ) (volts : Float) → FitBattConfig (for_pack_of cells volts)
unfolding for_pack_of per_cell_of default_of
fits_pack cells volts = record {
  capacity = of_bits-fits binary32 _;
  internal = of_bits-fits binary32 _;
  low_soc = of_bits-fits binary32 _;
  crit_soc = of_bits-fits binary32 _;
  low_fallback = div-fits binary32 volts _;
  crit_fallback = sub-fits binary32 _ _;
  debounce = of_bits-fits binary32 _;
}
