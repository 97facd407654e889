-- `sound_battery_of` is true of every sound battery, and a battery of which it is true, its floats being f32 values, is sound.
use Rattle.std.proofs.Common.{◌≡◌, Bool, true, false, cond, T, sym, refl, ap, ◌∙◌, subst, eqb→eq}
use Rattle.std.specs.Cmp.{booleans_Decides}
use denote.Floats.{is_true}
use lib.Ieee.{Float, binary32, of_bits, to_bits, fits, le}
use lib.Ieee.Bits.{of_bits-to_bits, is_false}
use lib.Ieee.Fits.{and_l, and_r}
use lib.Ieee.Scale.{finite}
use Rattle.relay_math.specs.Small.{f32_zero}
use Rattle.relay_batt.specs.Bounds.{Within, within, all}
use Rattle.relay_batt.specs.Estimator.{r_min, r_max, none_of}
use Rattle.relay_batt.specs.Sound.{Sound, plus_zero, nothing_tests, battery_tests, sound_battery_of}
use Rattle.relay_batt.specs.Fits.{FitState, FitBattery}
use Rattle.relay_batt.specs.declared.estimator.BattState.{BattState}
use Rattle.relay_batt.specs.declared.battery.Battery.{Battery}
use Rattle.relay_batt.proofs.Bounds.{each}

-- ---- sound batteries pass
within_test : (lo hi x : Float) → Within lo hi x → within lo hi x ≡ true
within_test lo hi x w = simp (is_true (le lo x) w.low, is_true (le x hi) w.high)

none_test : all (nothing_tests none_of) ≡ true
unfolding none_of to_bits of_bits
none_test = refl

shown_test : (seen : Bool) (s : BattState) → (seen ≡ true → Within r_min r_max s.r_est) → (seen ≡ false → s ≡ none_of) → cond seen (within r_min r_max s.r_est) (all (nothing_tests s)) ≡ true
shown_test true s p q = within_test r_min r_max s.r_est (p refl)
shown_test false s p q = rw (q refl) none_test

pub sound_test : (b : Battery) → Sound b → sound_battery_of b ≡ true
unfolding sound_battery_of
sound_test b s =
    let e = s.estimator in
    simp (
      within_test _ _ _ e.used,
      within_test _ _ _ e.resistance,
      is_true (finite b.est.prev_v) e.volts_before,
      is_true (finite b.est.prev_i) e.amps_before,
      is_true (finite b.est.low.below_s) e.low_time.finite_here,
      is_true (finite b.est.critical.below_s) e.critical_time.finite_here,
      within_test _ _ _ s.shown.charge,
      within_test _ _ _ s.shown.used,
      shown_test b.seen b.state s.shown.resistance s.shown.nothing,
      (booleans_Decides b.state.low b.est.low.latched).1 s.low_shown,
      (booleans_Decides b.state.critical b.est.critical.latched).1 s.critical_shown,
    )

-- ---- and what passes is sound, its floats being f32 values
pub zero_back : (x : Float) → T (fits binary32 x) → T (plus_zero x) → x ≡ f32_zero
zero_back x h t = sym (of_bits-to_bits binary32 x h) ∙ ap (of_bits binary32) (eqb→eq (to_bits binary32 x) 0 t)

within_back : (lo hi x : Float) → T (within lo hi x) → Within lo hi x
within_back lo hi x t = record { low = and_l (le lo x) (le x hi) t; high = and_r (le lo x) (le x hi) t }

-- a state with nothing in it is `none_of`
none_back : (s : BattState) → FitState s → T (all (nothing_tests s)) → s ≡ none_of
unfolding none_of
none_back s f t =
    let test = each (nothing_tests s) t in
    λ i. record {
      volts = zero_back s.volts f.volts (test 0) i;
      rest_volts = zero_back s.rest_volts f.rest (test 1) i;
      current_a = zero_back s.current_a f.amps (test 2) i;
      consumed_mah = zero_back s.consumed_mah f.used (test 3) i;
      soc = zero_back s.soc f.charge (test 4) i;
      r_est = zero_back s.r_est f.resistance (test 5) i;
      low = is_false s.low (test 6) i;
      critical = is_false s.critical (test 7) i;
      degraded = is_false s.degraded (test 8) i;
    }

pub test_sound : (b : Battery) → FitBattery b → sound_battery_of b ≡ true → Sound b
unfolding sound_battery_of
test_sound b f e =
    let test = each (battery_tests b) (rw e tt) in
    let shown : (x : Bool) → b.seen ≡ x → T (cond x (within r_min r_max b.state.r_est) (all (nothing_tests b.state))) = λ x h. subst (λ (y : Bool). T (cond y (within r_min r_max b.state.r_est) (all (nothing_tests b.state)))) h (test 8) in
    record {
      estimator = record {
        used = within_back _ _ _ (test 0);
        resistance = within_back _ _ _ (test 1);
        volts_before = test 2;
        amps_before = test 3;
        low_time = record { finite_here = test 4; fits_here = f.estimator.low_time };
        critical_time = record { finite_here = test 5; fits_here = f.estimator.critical_time };
      };
      shown = record {
        charge = within_back _ _ _ (test 6);
        used = within_back _ _ _ (test 7);
        resistance = λ h. within_back _ _ _ (shown true h);
        nothing = λ h. none_back b.state f.shown (shown false h);
      };
      low_shown = (booleans_Decides b.state.low b.est.low.latched).0 (is_true _ (test 9));
      critical_shown = (booleans_Decides b.state.critical b.est.critical.latched).0 (is_true _ (test 10));
    }
