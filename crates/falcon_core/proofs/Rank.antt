-- No tick or report lowers the rank, save a tick with height under 0.15 m that goes to Disarmed through Land; and which modes ticks and reports keep.
use Prim.Native.Nat.{◌≤◌}
use native.Mathlib.Nat.{le_trans}
use mathlib.Core.Bool.{Bool, false, not, ◌&&◌, ◌||◌}
use mathlib.Core.Logic.{◌⊎◌, inl, inr, ⊎_elim}
use mathlib.Core.Path.{◌≡◌, refl, ◌∙◌}
use lib.Dec.{T, leb, leb→le}
use lib.Ieee.Fits.{and_i, and_l, and_r}
use Rattle.std.proofs.lemmas.Float.{T_from_false}
use Rattle.std.specs.Prelude.{Option, Some, None}
use Rattle.relay_math.proofs.Order.{or_l, or_r}
use Rattle.relay_fsm.specs.declared.Mode.{Mode}
use Rattle.relay_fsm.specs.declared.Mode.TheVariants.{Disarmed, Land, Rtl}
use Rattle.relay_fsm.specs.declared.Event.{Event}
use Rattle.relay_fsm.specs.Mode.{is_mode, is_airborne_of, rank_of}
use Rattle.relay_fsm.specs.Fsm.{row_of, on_of}
use Rattle.relay_fsm.proofs.Finite.{◌⇒◌, then, either, is_mode→eq, eq→is_mode, at_m}
use Rattle.falcon_state.specs.declared.mission.Legs.{Legs}
use Rattle.falcon_state.specs.declared.tick.Tick.{Tick}
use Rattle.falcon_state.specs.declared.flight.FlightSupervisor.{FlightSupervisor}
use Rattle.falcon_guidance.specs.Geometry.{height_of}
use Rattle.falcon_events.specs.Failsafe.{in_flight_of, mode_after, tilted_of, breach_gives, breached_of, runaway_gives, runaway_of, wind_gives, wind_of, report_of}
use Rattle.falcon_events.specs.Milestone.{near_home_of, near_ground_of, milestone_gives}
use Rattle.falcon_tick.specs.Tick.{dist_home, alt_agl, outside, battery, before_breach, after_breach, after_runaway, after_wind, reached, tick_of}
use Rattle.falcon_core.specs.Land.{led_to_land, through_land_of}
use Rattle.falcon_core.proofs.Stages.{tick_mode}
use Rattle.falcon_core.proofs.Rules.{breach_by, runaway_by, wind_by, milestone_by, report_by, stages_keep, tick_keeps}

-- what stays

-- no paragraph of a tick leaves a mode that is on the ground, or Terminated
stays : Mode → Bool
stays m = not (is_airborne_of m) ⇒ stages_keep (λ n. is_mode n m)

-- so on the ground, and in Terminated, a tick keeps the mode
pub tick_idle :
    (f : FlightSupervisor) (l : Legs) (t : Tick) → T (not (is_airborne_of f.fsm.mode)) → (tick_of f l t).flight.fsm.mode ≡ f.fsm.mode
unfolding row_of on_of stays
tick_idle f l t h =
    let m : Mode = f.fsm.mode in
    is_mode→eq _ m
    (tick_keeps (λ n. is_mode n m) f l t (then (not (is_airborne_of m)) (stages_keep (λ n. is_mode n m)) (at_m stays tt m) h) (eq→is_mode m m refl))

-- a rule with a test that fails
unless : (p x q : Bool) → T ((p && not x) ⇒ q) → T p → x ≡ false → T q
unless p x q h hp e = then (p && not x) q h (and_i p (not x) hp (T_from_false x e))

-- "Failsafe only if the rank wanted (3 critical, else 2) exceeds the present one": outside the fence the return goes on until home is near, unless the
-- battery is critical or the vehicle tumbles
pub tick_rtl :
    (f : FlightSupervisor) (l : Legs) (t : Tick)
    → f.fsm.mode ≡ Rtl
    → (battery f l t).state.critical ≡ false
    → tilted_of t ≡ false
    → near_home_of (dist_home f l t) ≡ false
    → (tick_of f l t).flight.fsm.mode ≡ Rtl
unfolding row_of on_of
tick_rtl f l t e noCritical noTilt notHome =
    let rtl0 : Bool = is_mode f.fsm.mode Rtl in
    let rtl1 : Bool = is_mode (after_breach f l t).mode Rtl in
    let rtl2 : Bool = is_mode (after_runaway f l t).mode Rtl in
    let rtl3 : Bool = is_mode (after_wind f l t).mode Rtl in
    let rtl4 : Bool = is_mode (reached f l t).mode Rtl in
    let h1 : T rtl1 =
    unless rtl0 (battery f l t).state.critical rtl1
    (breach_by f l t (λ breach critical m n. (is_mode m Rtl && not critical) ⇒ is_mode n Rtl) tt) (eq→is_mode _ _ e) noCritical in
    let h2 : T rtl2 =
    unless rtl1 (tilted_of t) rtl2 (runaway_by f l t (λ tilted enough m n. (is_mode m Rtl && not tilted) ⇒ is_mode n Rtl) tt) h1 noTilt in
    let h3 : T rtl3 = then rtl2 rtl3 (wind_by f l t (λ gusty enough m n. is_mode m Rtl ⇒ is_mode n Rtl) tt) h2 in
    let h4 : T rtl4 =
    unless rtl3 (near_home_of (dist_home f l t)) rtl4
    (milestone_by f l t (λ high home ground arrived more m n. (is_mode m Rtl && not home) ⇒ is_mode n Rtl) tt) h3 notHome in
    tick_mode f l t ∙ is_mode→eq _ _ h4

module _ (f : FlightSupervisor) (failed : Bool) where
  -- a report keeps the mode on the ground, in Land and in Terminated
  pub report_idle : T (not (is_airborne_of f.fsm.mode) || is_mode f.fsm.mode Land) → (report_of f failed).fsm.mode ≡ f.fsm.mode
  unfolding row_of on_of
  report_idle h =
      let m : Mode = f.fsm.mode in
      let n : Mode = (report_of f failed).fsm.mode in
      is_mode→eq n m
      (then (not (is_airborne_of m) || is_mode m Land) (is_mode n m)
      (report_by (λ b m n. (not (is_airborne_of m) || is_mode m Land) ⇒ is_mode n m) tt f failed) h)

  pub report_rank : rank_of f.fsm.mode ≤ rank_of (report_of f failed).fsm.mode
  unfolding row_of on_of
  report_rank = leb→le _ _ (report_by (λ b m n. leb (rank_of m) (rank_of n)) tt f failed)

-- through Land

-- the mode n after an event is Land only if the mode m before was, which is enough for x, or if the event led there
land_from :
    (m n : Mode) (e : Option Event) (x : Bool)
    → n ≡ mode_after m e → (T (is_mode m Land) → T x) → T (is_mode n Land) → T (x || led_to_land m e)
land_from m n None x q k h = or_l x false (k (rw q at h))
land_from m n (Some e) x q k h = or_r x (is_mode (on_of m e in_flight_of) Land) (rw q at h)

module _ (f : FlightSupervisor) (l : Legs) (t : Tick) where
  -- a tick whose milestone meets Land goes through Land
  through : T (is_mode (after_wind f l t).mode Land) → T (through_land_of f l t)
  unfolding through_land_of before_breach after_breach breached_of after_runaway runaway_of after_wind wind_of
  through h =
      let m0 : Mode = f.fsm.mode in
      let m1 : Mode = (after_breach f l t).mode in
      let m2 : Mode = (after_runaway f l t).mode in
      let m3 : Mode = (after_wind f l t).mode in
      let e0 : Option Event = breach_gives (before_breach f l t) (battery f l t) (outside f l t) in
      let e1 : Option Event = runaway_gives (after_breach f l t) t in
      let e2 : Option Event = wind_gives (after_runaway f l t) t in
      let e3 : Option Event = milestone_gives m3 f.config f.mission l.here (dist_home f l t) (alt_agl f l t) t.p in
      let x0 : Bool = is_mode m0 Land in
      let x1 : Bool = x0 || led_to_land m0 e0 in
      let x2 : Bool = x1 || led_to_land m1 e1 in
      or_l (x2 || led_to_land m2 e2) (led_to_land m3 e3)
      (land_from m2 m3 e2 x2 refl (land_from m1 m2 e1 x1 refl (land_from m0 m1 e0 x0 refl (λ u. u))) h)

  -- before the milestone the rank does not fall
  rank_before : rank_of f.fsm.mode ≤ rank_of (after_wind f l t).mode
  unfolding row_of on_of
  rank_before =
      le_trans (leb→le _ _ (breach_by f l t (λ b c m n. leb (rank_of m) (rank_of n)) tt))
      (le_trans (leb→le _ _ (runaway_by f l t (λ b c m n. leb (rank_of m) (rank_of n)) tt))
      (leb→le _ _ (wind_by f l t (λ b c m n. leb (rank_of m) (rank_of n)) tt)))

  -- the milestone lowers it only from Land to Disarmed near the ground
  rank_milestone :
      (rank_of (after_wind f l t).mode ≤ rank_of (reached f l t).mode)
      ⊎ T (is_mode (after_wind f l t).mode Land && (near_ground_of (height_of f.config t.p) && is_mode (reached f l t).mode Disarmed))
  unfolding row_of on_of
  rank_milestone =
      ⊎_elim (λ u. inl (leb→le _ _ u)) inr
      (either (leb (rank_of (after_wind f l t).mode) (rank_of (reached f l t).mode))
      (is_mode (after_wind f l t).mode Land && (near_ground_of (height_of f.config t.p) && is_mode (reached f l t).mode Disarmed))
      (milestone_by f l t (λ high home ground arrived more m n. leb (rank_of m) (rank_of n) || (is_mode m Land && (ground && is_mode n Disarmed))) tt))

  pub tick_rank :
      (rank_of f.fsm.mode ≤ rank_of (tick_of f l t).flight.fsm.mode)
      ⊎ (T (near_ground_of (height_of f.config t.p)) × ((tick_of f l t).flight.fsm.mode ≡ Disarmed) × T (through_land_of f l t))
  tick_rank =
      let m3 : Mode = (after_wind f l t).mode in
      let m4 : Mode = (reached f l t).mode in
      let g : Bool = near_ground_of (height_of f.config t.p) in
      rw (tick_mode f l t)
      (⊎_elim (λ u. inl (le_trans rank_before u))
      (λ u.
      let v : T (g && is_mode m4 Disarmed) = and_r (is_mode m3 Land) (g && is_mode m4 Disarmed) u in
      inr (and_l g (is_mode m4 Disarmed) v, is_mode→eq m4 Disarmed (and_r g (is_mode m4 Disarmed) v), through (and_l (is_mode m3 Land) (g && is_mode m4 Disarmed) u)))
      rank_milestone)
