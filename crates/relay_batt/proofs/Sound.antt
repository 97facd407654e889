-- A battery is sound and within document 01's bounds, and what it shows is finite, at every place of every list of turns from an opening.
use Rattle.std.proofs.Common.{◌≡◌, ℕ, suc, ◌*◌, ◌<◌, Bool, true, false, ◌&&◌, T, eqb, List, [], ◌∷◌, sym, refl, ap, ◌∙◌, true≢false, zero-lt-suc, mul-pos, arith, eqb→eq}
use Rattle.std.proofs.lemmas.Bool.{cond_both}
use lib.Ieee.{Float, nan, inf, fin, binary32, of_bits, fits, up, down, sub, lt, le}
use lib.Ieee.Fits.{up_pos, down_pos, and_r, add-fits}
use lib.Ieee.Scale.{finite}
use Rattle.relay_math.specs.Small.{f32, f32_zero, f32_one, clamp_of}
use Rattle.relay_batt.specs.Bounds.{Within}
use Rattle.relay_batt.specs.Curve.{sanitize_of, ocv_soc_cell_of}
use Rattle.relay_batt.specs.Config.{default_of, capacity_of, per_cell_of, for_pack_of}
use Rattle.relay_batt.specs.Latch.{trip_of}
use Rattle.relay_batt.specs.Estimator.{v_max, i_max, dt_max, r_min, r_max, none_of, shown_of, new_estimator_of, consumed_of, big_step_of, blend_of, r_est_of, rest_volts_of, soc_coulomb_of, soc_of, with_amps_of, volts_only_of, cut_dt, cut_volts, cut_amps, cut_resistance, estimator_update_of}
use Rattle.relay_batt.specs.Battery.{new_battery_of, heard_of, update_of, Turn, run_of}
use Rattle.relay_batt.specs.Sound.{Held, SoundEstimator, SoundState, Sound, InBounds, FiniteState}
use Rattle.relay_batt.specs.declared.config.BattConfig.{BattConfig}
use Rattle.relay_batt.specs.declared.latch.TripLatch.{TripLatch}
use Rattle.relay_batt.specs.declared.estimator.BatteryEstimator.{BatteryEstimator}
use Rattle.relay_batt.specs.declared.battery.Battery.{Battery}
use Rattle.relay_batt.specs.declared.battery.Reading.{Reading}
use Rattle.relay_batt.specs.declared.battery.Reading.TheVariants.{Nothing, Volts, VoltsAmps}
use Rattle.relay_batt.proofs.Bounds.{within_finite, sanitize_within}
use Rattle.relay_batt.proofs.NonNeg.{NonNeg, plus, Positive, above, positive_is}
use Rattle.relay_batt.proofs.Finite.{later_finite}
use Rattle.relay_batt.proofs.Trip.{trip_holds}
use Rattle.relay_batt.proofs.CurveBounds.{curve_within, zero_le_nonneg}

-- ---- the capacity
not_zero : (a : ℕ) → 0 < a → a ≡ 0 → ⊥
not_zero a h e = omega arith

-- at least a number above 0: the sign is +
nonneg_from : {k : Float} → Positive k → (x : Float) → T (finite x) → T (le k x) → NonNeg x
unfolding le
nonneg_from p nan f h = absurd f
nonneg_from p (inf s) f h = absurd f
nonneg_from (above n d) (fin true m e) f h =
    let a = suc n * up d * down e in
    let b = m * up e * down d in
    absurd (not_zero a (mul-pos (mul-pos (zero-lt-suc n) (up_pos d)) (down_pos e)) (eqb→eq a 0 (and_r (eqb a b) (eqb a 0) h)))
nonneg_from p (fin false m e) f h = plus m e

pub capacity_within : (cfg : BattConfig) → Within f32_one (f32 0x4974_2400) (capacity_of cfg)
unfolding capacity_of of_bits le
capacity_within cfg = sanitize_within cfg.capacity_mah f32_one (f32 0x4974_2400) (f32 0x459c_4000) tt tt tt tt

capacity_finite : (cfg : BattConfig) → T (finite (capacity_of cfg))
unfolding of_bits
capacity_finite cfg = within_finite f32_one (f32 0x4974_2400) (capacity_of cfg) tt tt (capacity_within cfg)

capacity_above : (cfg : BattConfig) → T (le f32_zero (capacity_of cfg))
unfolding of_bits
capacity_above cfg = zero_le_nonneg (nonneg_from (positive_is f32_one tt) (capacity_of cfg) (capacity_finite cfg) (capacity_within cfg).low)

-- ---- the parts of `update`
cut_dt_within : (dt : Float) → Within f32_zero f32_one (cut_dt dt)
unfolding of_bits le
cut_dt_within dt = sanitize_within dt f32_zero dt_max f32_zero tt tt tt tt

pub cut_volts_within : (volts : Float) → Within f32_zero v_max (cut_volts volts)
unfolding of_bits le
cut_volts_within volts = sanitize_within volts f32_zero v_max f32_zero tt tt tt tt

pub cut_amps_within : (amps : Float) → Within f32_zero i_max (cut_amps amps)
unfolding of_bits le
cut_amps_within amps = sanitize_within amps f32_zero i_max f32_zero tt tt tt tt

volts_is_finite : (x : Float) → Within f32_zero v_max x → T (finite x)
unfolding of_bits
volts_is_finite x w = within_finite f32_zero v_max x tt tt w

amps_is_finite : (x : Float) → Within f32_zero i_max x → T (finite x)
unfolding of_bits
amps_is_finite x w = within_finite f32_zero i_max x tt tt w

zero_held : Held f32_zero
unfolding of_bits fits
zero_held = record { finite_here = tt; fits_here = tt }

trip_held : (l : TripLatch) (dt : Float) (below : Bool) (debounce : Float) → Held l.below_s → Within f32_zero f32_one dt → Held (trip_of l dt below debounce).below_s
trip_held l dt below debounce h w =
    trip_holds (λ (x : TripLatch). Held x.below_s) l dt below debounce h
    record { finite_here = later_finite l.below_s dt h.finite_here h.fits_here w; fits_here = add-fits binary32 l.below_s dt }
    zero_held

pub consumed_within : (e : BatteryEstimator) (dt i : Float) → Within f32_zero (capacity_of e.cfg) (consumed_of e dt i)
unfolding consumed_of of_bits
consumed_within e dt i = let cap = capacity_of e.cfg in sanitize_within _ f32_zero cap cap (capacity_finite e.cfg) tt (capacity_finite e.cfg) (capacity_above e.cfg)

r_internal_within : (r : Float) → Within r_min r_max (cut_resistance r)
unfolding of_bits le
r_internal_within r = sanitize_within r r_min r_max (f32 0x3cc4_9ba6) tt tt tt tt

blend_within : (r dv di : Float) → Within r_min r_max (blend_of r dv di)
unfolding blend_of
blend_within r dv di = r_internal_within _

pub r_est_within : (e : BatteryEstimator) (v i : Float) → Within r_min r_max e.r_est → Within r_min r_max (r_est_of e v i)
unfolding r_est_of
r_est_within e v i w =
    let di = sub binary32 i e.prev_i in
    let blended = blend_of e.r_est (sub binary32 v e.prev_v) di in
    cond_both (e.have_prev && big_step_of di) blended e.r_est (Within r_min r_max) (λ e. blend_within _ _ _) (λ e. w)

rest_within : (v i r : Float) → Within f32_zero v_max (rest_volts_of v i r)
unfolding rest_volts_of
rest_within v i r = cut_volts_within _

coulomb_within : (cfg : BattConfig) (used : Float) → Within f32_zero f32_one (soc_coulomb_of cfg used)
unfolding soc_coulomb_of of_bits le
coulomb_within cfg used = sanitize_within _ f32_zero f32_one f32_zero tt tt tt tt

pub soc_within : (cfg : BattConfig) (used rest : Float) → Within f32_zero f32_one (soc_of cfg used rest)
unfolding soc_of
soc_within cfg used rest =
    let cell = per_cell_of cfg.cells rest in
    cond_both (lt (soc_coulomb_of cfg used) (ocv_soc_cell_of cell)) _ _ (Within f32_zero f32_one) (λ e. coulomb_within cfg used) (λ e. curve_within cell)

-- ---- one reading
amps_sound : (e : BatteryEstimator) (dt v i : Float) → SoundEstimator e → Within f32_zero f32_one dt → Within f32_zero v_max v → Within f32_zero i_max i → Sound (heard_of (with_amps_of e dt v i))
unfolding heard_of with_amps_of shown_of
amps_sound e dt v i s d p q = record {
  estimator = record {
    used = consumed_within e dt i;
    resistance = r_est_within e v i s.resistance;
    volts_before = volts_is_finite v p;
    amps_before = amps_is_finite i q;
    low_time = trip_held e.low dt _ _ s.low_time d;
    critical_time = trip_held e.critical dt _ _ s.critical_time d;
  };
  shown = record {
    charge = soc_within e.cfg _ _;
    used = consumed_within e dt i;
    resistance = λ h. r_est_within e v i s.resistance;
    nothing = λ h. absurd (true≢false h);
  };
  low_shown = refl;
  critical_shown = refl;
}

volts_sound : (e : BatteryEstimator) (dt v : Float) → SoundEstimator e → Within f32_zero f32_one dt → Sound (heard_of (volts_only_of e dt v))
unfolding heard_of volts_only_of shown_of
volts_sound e dt v s d = record {
  estimator = record {
    used = s.used;
    resistance = s.resistance;
    volts_before = s.volts_before;
    amps_before = s.amps_before;
    low_time = trip_held e.low dt _ _ s.low_time d;
    critical_time = trip_held e.critical dt _ _ s.critical_time d;
  };
  shown = record {
    charge = curve_within _;
    used = s.used;
    resistance = λ h. s.resistance;
    nothing = λ h. absurd (true≢false h);
  };
  low_shown = refl;
  critical_shown = refl;
}

-- ---- every list of turns
none_sound : (cfg : BattConfig) → SoundState (capacity_of cfg) false none_of
unfolding none_of of_bits le
none_sound cfg = record {
  charge = record { low = tt; high = tt };
  used = record { low = tt; high = capacity_above cfg };
  resistance = λ h. absurd (true≢false (sym h));
  nothing = λ h. refl;
}

pub sound_new : (cfg : BattConfig) → Sound (new_battery_of cfg)
unfolding new_battery_of new_estimator_of none_of
sound_new cfg = record {
  estimator = record {
    used = record { low = (none_sound cfg).used.low; high = capacity_above cfg };
    resistance = r_internal_within cfg.r_internal;
    volts_before = zero_held.finite_here;
    amps_before = zero_held.finite_here;
    low_time = zero_held;
    critical_time = zero_held;
  };
  shown = none_sound cfg;
  low_shown = refl;
  critical_shown = refl;
}

pub sound_update : (b : Battery) (dt : Float) (r : Reading) → Sound b → Sound (update_of b dt r)
unfolding update_of estimator_update_of
sound_update b dt Nothing s = record { estimator = s.estimator; shown = s.shown; low_shown = s.low_shown; critical_shown = s.critical_shown }
sound_update b dt (Volts volts) s = volts_sound b.est (cut_dt dt) (cut_volts volts) s.estimator (cut_dt_within dt)
sound_update b dt (VoltsAmps volts amps) s = amps_sound b.est (cut_dt dt) (cut_volts volts) (cut_amps amps) s.estimator (cut_dt_within dt) (cut_volts_within volts) (cut_amps_within amps)

pub sound_run : (b : Battery) (l : List Turn) → Sound b → Sound (run_of b l)
unfolding run_of
sound_run b [] s = s
sound_run b (t ∷ l) s = sound_run (update_of b t.dt t.reading) l (sound_update b t.dt t.reading s)

-- the configuration stays
pub update_cfg : (b : Battery) (dt : Float) (r : Reading) → (update_of b dt r).est.cfg ≡ b.est.cfg
unfolding update_of heard_of estimator_update_of volts_only_of with_amps_of
update_cfg b dt Nothing = refl
update_cfg b dt (Volts volts) = refl
update_cfg b dt (VoltsAmps volts amps) = refl

pub run_cfg : (b : Battery) (l : List Turn) → (run_of b l).est.cfg ≡ b.est.cfg
unfolding run_of
run_cfg b [] = refl
run_cfg b (t ∷ l) = run_cfg (update_of b t.dt t.reading) l ∙ update_cfg b t.dt t.reading

pub opened_cfg : (cfg : BattConfig) → (new_battery_of cfg).est.cfg ≡ cfg
unfolding new_battery_of new_estimator_of
opened_cfg cfg = refl

-- the built-in pack's capacity, whatever the cell count and the opening volts are
capacity_pack : (cells : ℕ) (volts : Float) → capacity_of (for_pack_of cells volts) ≡ f32 0x459c_4000
unfolding capacity_of for_pack_of default_of sanitize_of clamp_of of_bits lt
capacity_pack cells volts = refl

-- of a sound battery of the built-in pack, whatever the cell count
pub sound_bounds : (b : Battery) (cells : ℕ) (volts : Float) → b.est.cfg ≡ for_pack_of cells volts → Sound b → InBounds b
sound_bounds b cells volts e s =
    let full : capacity_of b.est.cfg ≡ f32 0x459c_4000 = ap capacity_of e ∙ capacity_pack cells volts in
    record {
      charge = s.shown.charge;
      used = rw full at s.estimator.used;
      used_shown = rw full at s.shown.used;
      resistance = s.estimator.resistance;
      resistance_shown = s.shown.resistance;
      unread = s.shown.nothing;
    }

-- so at every place of every list of turns from an opening
pub bounds : (cells : ℕ) (volts : Float) (l : List Turn) → InBounds (run_of (new_battery_of (for_pack_of cells volts)) l)
bounds cells volts l =
    let b = new_battery_of (for_pack_of cells volts) in
    sound_bounds (run_of b l) cells volts (run_cfg b l ∙ opened_cfg (for_pack_of cells volts)) (sound_run b l (sound_new (for_pack_of cells volts)))

-- ---- every number shown is finite
used_is_finite : (cfg : BattConfig) (x : Float) → Within f32_zero (capacity_of cfg) x → T (finite x)
unfolding of_bits
used_is_finite cfg x w = within_finite f32_zero (capacity_of cfg) x tt (capacity_finite cfg) w

charge_is_finite : (x : Float) → Within f32_zero f32_one x → T (finite x)
unfolding of_bits
charge_is_finite x w = within_finite f32_zero f32_one x tt tt w

resistance_is_finite : (x : Float) → Within r_min r_max x → T (finite x)
unfolding of_bits
resistance_is_finite x w = within_finite r_min r_max x tt tt w

pub finite_new : (cfg : BattConfig) → FiniteState (new_battery_of cfg).state
unfolding new_battery_of none_of
finite_new cfg =
    let z = zero_held.finite_here in
    record { volts = z; rest = z; amps = z; used = z; charge = z; resistance = z }

pub finite_update : (b : Battery) (dt : Float) (r : Reading) → Sound b → FiniteState b.state → FiniteState (update_of b dt r).state
unfolding update_of heard_of estimator_update_of volts_only_of with_amps_of shown_of
finite_update b dt Nothing s f = f
finite_update b dt (Volts volts) s f =
    let v = volts_is_finite (cut_volts volts) (cut_volts_within volts) in
    record {
      volts = v;
      rest = v;
      amps = zero_held.finite_here;
      used = used_is_finite b.est.cfg b.est.consumed_mah s.estimator.used;
      charge = charge_is_finite _ (curve_within _);
      resistance = resistance_is_finite b.est.r_est s.estimator.resistance;
    }
finite_update b dt (VoltsAmps volts amps) s f =
    let v = cut_volts volts in
    let i = cut_amps amps in
    record {
      volts = volts_is_finite v (cut_volts_within volts);
      rest = volts_is_finite _ (rest_within v i (r_est_of b.est v i));
      amps = amps_is_finite i (cut_amps_within amps);
      used = used_is_finite b.est.cfg _ (consumed_within b.est (cut_dt dt) i);
      charge = charge_is_finite _ (soc_within b.est.cfg _ _);
      resistance = resistance_is_finite _ (r_est_within b.est v i s.estimator.resistance);
    }

pub finite_run : (b : Battery) (l : List Turn) → Sound b → FiniteState b.state → FiniteState (run_of b l).state
unfolding run_of
finite_run b [] s f = f
finite_run b (t ∷ l) s f = finite_run (update_of b t.dt t.reading) l (sound_update b t.dt t.reading s) (finite_update b t.dt t.reading s f)
