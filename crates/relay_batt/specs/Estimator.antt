-- `BattState` and `BatteryEstimator` of relay-batt.
use Rattle.std.specs.Prelude.{Bool, true, false, cond, not, ◌&&◌, Option, Some, None, Float}
use Rattle.std.specs.Float.{binary32}
use Rattle.std.specs.Float.Ieee.{add, sub, mul, div, neg, lt, le}
use Rattle.relay_math.specs.Small.{f32, f32_zero, f32_one}
use Rattle.relay_batt.specs.Curve.{sanitize_of, ocv_soc_cell_of}
use Rattle.relay_batt.specs.Config.{capacity_of, per_cell_of}
use Rattle.relay_batt.specs.Latch.{new_latch_of, trip_of}
use Rattle.relay_batt.specs.declared.config.BattConfig.{BattConfig}
use Rattle.relay_batt.specs.declared.estimator.BattState.{BattState}
use Rattle.relay_batt.specs.declared.estimator.BatteryEstimator.{BatteryEstimator}
use Rattle.relay_batt.specs.declared.estimator.Updated.{Updated}

-- ---- the limits: `V_MAX` 60, `I_MAX` 500, `DT_MAX` 1, `R_MIN` 0.001, `R_MAX` 0.2, `R_STEP_MIN_A` 5, `R_ALPHA` 0.05

abbrev pub v_max : Float
v_max = f32 0x4270_0000

abbrev pub i_max : Float
i_max = f32 0x43fa_0000

abbrev pub dt_max : Float
dt_max = f32_one

abbrev pub r_min : Float
r_min = f32 0x3a83_126f

abbrev pub r_max : Float
r_max = f32 0x3e4c_cccd

abbrev pub r_step_min_a : Float
r_step_min_a = f32 0x40a0_0000

abbrev pub r_alpha : Float
r_alpha = f32 0x3d4c_cccd

-- `1000.0 / 3600.0`
abbrev pub mah_per_as : Float
mah_per_as = f32 0x3e8e_38e4

-- ---- what is read or estimated, cut to its range

-- "each dt cut to 0..1 (0 if not finite)"
abbrev pub cut_dt : Float → Float
cut_dt dt = sanitize_of dt f32_zero dt_max f32_zero

-- `v` of `update`
abbrev pub cut_volts : Float → Float
cut_volts volts = sanitize_of volts f32_zero v_max f32_zero

-- `i` of `update`
abbrev pub cut_amps : Float → Float
cut_amps amps = sanitize_of amps f32_zero i_max f32_zero

-- `r_est`, 0.024 ohm where it is not finite
abbrev pub cut_resistance : Float → Float
cut_resistance r = sanitize_of r r_min r_max (f32 0x3cc4_9ba6)

-- ---- the state shown

-- "Before a reading the state shown is all zero and false": `BattState::default`
unfoldable pub none_of : BattState
none_of = record { volts = f32_zero; rest_volts = f32_zero; current_a = f32_zero; consumed_mah = f32_zero; soc = f32_zero; r_est = f32_zero; low = false; critical = false; degraded = false }

-- the state that an estimator shows beside volts, resting volts, amps and charge
unfoldable pub shown_of : BatteryEstimator → Float → Float → Float → Float → Bool → BattState
shown_of e v rest i soc degraded = record {
  volts = v;
  rest_volts = rest;
  current_a = i;
  consumed_mah = e.consumed_mah;
  soc = soc;
  r_est = e.r_est;
  low = e.low.latched;
  critical = e.critical.latched;
  degraded = degraded;
}

-- ---- the estimator

-- `BatteryEstimator::new`
unfoldable pub new_estimator_of : BattConfig → BatteryEstimator
new_estimator_of cfg = record {
  cfg = cfg;
  consumed_mah = f32_zero;
  r_est = cut_resistance cfg.r_internal;
  prev_v = f32_zero;
  prev_i = f32_zero;
  have_prev = false;
  low = new_latch_of;
  critical = new_latch_of;
}

-- `BatteryEstimator::reset`
unfoldable pub reset_of : BatteryEstimator → BatteryEstimator
reset_of e = record e { consumed_mah = f32_zero; have_prev = false; low = new_latch_of; critical = new_latch_of }

-- the coulomb count of `update`: `i * dt * (1000.0 / 3600.0)` more, in 0..capacity
unfoldable pub consumed_of : BatteryEstimator → Float → Float → Float
consumed_of e dt i = let cap = capacity_of e.cfg in sanitize_of (add binary32 e.consumed_mah (mul binary32 (mul binary32 i dt) mah_per_as)) f32_zero cap cap

-- `!(-R_STEP_MIN_A..=R_STEP_MIN_A).contains(&di)`, true at NaN
unfoldable pub big_step_of : Float → Bool
big_step_of di = not (le (neg r_step_min_a) di && le di r_step_min_a)

-- the sample `-dv / di` and the low pass over it
unfoldable pub blend_of : Float → Float → Float → Float
blend_of r dv di =
    let sample = sanitize_of (div binary32 (neg dv) di) r_min r_max r in
    cut_resistance (add binary32 r (mul binary32 r_alpha (sub binary32 sample r)))

-- `r_est` after a reading: blended where there is a previous one and the step of current is big
unfoldable pub r_est_of : BatteryEstimator → Float → Float → Float
r_est_of e v i =
    let di = sub binary32 i e.prev_i in
    cond (e.have_prev && big_step_of di) (blend_of e.r_est (sub binary32 v e.prev_v) di) e.r_est

-- `rest` of `update`
unfoldable pub rest_volts_of : Float → Float → Float → Float
rest_volts_of v i r = cut_volts (add binary32 v (mul binary32 i r))

-- `soc_coulomb` of `update`
unfoldable pub soc_coulomb_of : BattConfig → Float → Float
soc_coulomb_of cfg consumed = sanitize_of (sub binary32 f32_one (div binary32 consumed (capacity_of cfg))) f32_zero f32_one f32_zero

-- `soc` of `update`: the lower of the count's and the curve's
unfoldable pub soc_of : BattConfig → Float → Float → Float
soc_of cfg consumed rest =
    let coulomb = soc_coulomb_of cfg consumed in
    let ocv = ocv_soc_cell_of (per_cell_of cfg.cells rest) in
    cond (lt coulomb ocv) coulomb ocv

-- an estimator and the state that it shows
abbrev showing : BatteryEstimator → Float → Float → Float → Float → Bool → Updated
showing e v rest i soc degraded = record { est = e; state = shown_of e v rest i soc degraded }

-- the latches `dt` seconds on, each below its threshold or not
abbrev pub latched_of : BatteryEstimator → Float → Bool → Bool → BatteryEstimator
latched_of e dt low critical = record e { low = trip_of e.low dt low e.cfg.debounce_s; critical = trip_of e.critical dt critical e.cfg.debounce_s }

-- `update` with amps, on numbers that are cut to their ranges
unfoldable pub with_amps_of : BatteryEstimator → Float → Float → Float → Updated
with_amps_of e dt v i =
    let consumed = consumed_of e dt i in
    let r = r_est_of e v i in
    let rest = rest_volts_of v i r in
    let soc = soc_of e.cfg consumed rest in
    let latched = latched_of e dt (lt soc e.cfg.low_soc) (lt soc e.cfg.crit_soc) in
    showing record latched { consumed_mah = consumed; r_est = r; prev_v = v; prev_i = i; have_prev = true } v rest i soc false

-- `update` with volts alone, on numbers that are cut to their ranges
unfoldable pub volts_only_of : BatteryEstimator → Float → Float → Updated
volts_only_of e dt v =
    let cell = per_cell_of e.cfg.cells v in
    let latched = latched_of e dt (lt cell e.cfg.low_v_cell_fallback) (lt cell e.cfg.crit_v_cell_fallback) in
    showing record latched { have_prev = false } v v f32_zero (ocv_soc_cell_of cell) true

-- `update`
unfoldable pub estimator_update_of : BatteryEstimator → Float → Float → Option Float → Updated
estimator_update_of e dt volts (Some amps) = with_amps_of e (cut_dt dt) (cut_volts volts) (cut_amps amps)
estimator_update_of e dt volts None = volts_only_of e (cut_dt dt) (cut_volts volts)
