-- One cell count, whatever it is, divides the opening's volts and every reading.
use Rattle.std.proofs.Common.{◌≡◌, ℕ, suc, ◌^◌, ◌<◌, cond, pos, refl}
use lib.Dec.{eqb-suc-zero}
use lib.Ieee.{Float, binary32, of_bits, to_bits, of_int, sub, div, lt}
use Rattle.relay_math.specs.Small.{f32}
use Rattle.relay_batt.specs.Curve.{ocv_soc_cell_of}
use Rattle.relay_batt.specs.Config.{pack_debounce_s, default_of, cells_of, per_cell_of, crit_below_low, for_pack_of, FromPack, for_opening_volts_of}
use Rattle.relay_batt.specs.Latch.{trip_of}
use Rattle.relay_batt.specs.Estimator.{new_estimator_of, shown_of, soc_coulomb_of, soc_of, with_amps_of, volts_only_of, cut_dt, cut_volts, estimator_update_of}
use Rattle.relay_batt.specs.Battery.{new_battery_of, heard_of, update_of}
use Rattle.relay_batt.specs.declared.battery.Battery.{Battery}
use Rattle.relay_batt.specs.declared.battery.Reading.{Reading}
use Rattle.relay_batt.specs.declared.battery.Reading.TheVariants.{Volts, VoltsAmps}
use Rattle.relay_batt.proofs.Sound.{update_cfg}

-- U3: "the default of four goes to six"
pub opening_cells : (volts : Float) → (for_opening_volts_of volts).cells ≡ 6
unfolding for_pack_of
opening_cells volts = refl

-- volts a cell are the volts over the cell count
pub per_cell_is : (n : ℕ) (volts : Float) → per_cell_of (suc n) volts ≡ div binary32 volts (of_int binary32 (pos (suc n)))
unfolding per_cell_of cells_of
per_cell_is n volts = rw (eqb-suc-zero n)

-- ---- U3: "Opening volts are then divided by the cell count, not by 4, for both thresholds"
pub low_threshold : (cells : ℕ) (volts : Float) → (for_pack_of cells volts).low_v_cell_fallback ≡ per_cell_of cells volts
unfolding for_pack_of
low_threshold cells volts = refl

pub critical_threshold : (cells : ℕ) (volts : Float) → (for_pack_of cells volts).crit_v_cell_fallback ≡ sub binary32 (per_cell_of cells volts) (f32 0x3e19_999a)
unfolding for_pack_of
critical_threshold cells volts = refl

-- ---- a battery keeps the pack that it was opened with
pub opened_pack : (cells : ℕ) (volts : Float) → cells < 2 ^ 32 → FromPack (new_battery_of (for_pack_of cells volts)).est.cfg volts
unfolding new_battery_of new_estimator_of for_pack_of
opened_pack cells volts h = record { made = refl; cells_below = h }

pub update_pack : (b : Battery) (dt : Float) (r : Reading) {volts : Float} → FromPack b.est.cfg volts → FromPack (update_of b dt r).est.cfg volts
update_pack b dt r k = rw (update_cfg b dt r) k

-- ---- readings, of a battery with such a pack
module _ (cells : ℕ) (opening : Float) (b : Battery) (k : b.est.cfg ≡ for_pack_of cells opening) (dt volts : Float) where
  -- with volts alone, below compares volts over cells with opening volts over cells
  pub low_by_volts : (update_of b dt (Volts volts)).est.low ≡ trip_of b.est.low (cut_dt dt) (lt (per_cell_of cells (cut_volts volts)) (per_cell_of cells opening)) pack_debounce_s
  unfolding update_of heard_of estimator_update_of volts_only_of for_pack_of default_of
  low_by_volts = simp (k)

  pub critical_by_volts : (update_of b dt (Volts volts)).est.critical ≡ trip_of b.est.critical (cut_dt dt) (lt (per_cell_of cells (cut_volts volts)) (sub binary32 (per_cell_of cells opening) crit_below_low)) pack_debounce_s
  unfolding update_of heard_of estimator_update_of volts_only_of for_pack_of default_of
  critical_by_volts = simp (k)

  -- the curve is asked for volts over cells, and with amps for the volts at rest over cells
  pub charge_by_volts : (update_of b dt (Volts volts)).state.soc ≡ ocv_soc_cell_of (per_cell_of cells (cut_volts volts))
  unfolding update_of heard_of estimator_update_of volts_only_of shown_of for_pack_of
  charge_by_volts = simp (k)

  pub charge_by_amps : (amps : Float) →
      let u = update_of b dt (VoltsAmps volts amps) in
      let counted = soc_coulomb_of b.est.cfg u.state.consumed_mah in
      let curve = ocv_soc_cell_of (per_cell_of cells u.state.rest_volts) in
      u.state.soc ≡ cond (lt counted curve) counted curve
  unfolding update_of heard_of estimator_update_of with_amps_of shown_of soc_of for_pack_of
  charge_by_amps amps = simp (k)

-- ---- U3: "must send 21.0 for the same 3.5 V a cell": the thresholds of 21.0 with six cells are those of 14.0 with four, 3.5 and 3.35, bit for bit
abbrev thresholds : ℕ → Float → ℕ × ℕ
thresholds cells volts = let cfg = for_pack_of cells volts in (to_bits binary32 cfg.low_v_cell_fallback, to_bits binary32 cfg.crit_v_cell_fallback)

six_at_21 : thresholds 6 (f32 0x41a8_0000) ≡ (0x4060_0000, 0x4056_6666)
unfolding for_pack_of per_cell_of cells_of of_bits of_int div sub to_bits
six_at_21 = refl

four_at_14 : thresholds 4 (f32 0x4160_0000) ≡ (0x4060_0000, 0x4056_6666)
unfolding for_pack_of per_cell_of cells_of of_bits of_int div sub to_bits
four_at_14 = refl

-- an opening left at 14.0: 2.33 and 2.18 V a cell
six_at_14 : thresholds 6 (f32 0x4160_0000) ≡ (0x4015_5555, 0x400b_bbbb)
unfolding for_pack_of per_cell_of cells_of of_bits of_int div sub to_bits
six_at_14 = refl
