-- Every sound state passes `sound_supervisor_of`, every state of f32 values that passes it is sound, and so every call keeps the test true.
use Prim.Native.Nat.{ℕ, ◌+◌, ◌-◌, ◌≤◌, ◌<◌}
use native.Mathlib.Decide.{dec_lt}
use native.Mathlib.Omega.{arith}
use mathlib.Core.Bool.{Bool, true, ◌||◌}
use mathlib.Core.List.{List}
use mathlib.Core.Logic.{inl, inr}
use mathlib.Core.Path.{◌≡◌, refl, sym, ap, ◌∙◌}
use lib.Dec.{T, ltb, leb}
use lib.ListN.{length, get_or, take, drop}
use lib.Ieee.{of_bits, to_bits}
use lib.Ieee.Bits.{is_true}
use Rattle.std.specs.List.{list_all}
use Rattle.std.proofs.lemmas.Bool.{and_from, and_parts, or_left, or_right, or_cases, lt-ltb, ltb-true, le-leb, leb-true, eq-eqb, eqb-true}
use Rattle.std.proofs.lemmas.Float.{T_from_true}
use Rattle.std.proofs.lemmas.List.{length-take, length-drop, get_or-take, get_or-drop, get_or_default}
use Rattle.std.proofs.lemmas.List.Sums.{AllPass-from_list_all, list_all-from_AllPass}
use Rattle.relay_fsm.specs.declared.Mode.{Mode}
use Rattle.relay_fsm.specs.declared.Mode.TheVariants.{Terminated}
use Rattle.relay_fsm.specs.Mode.{is_mode}
use Rattle.relay_fsm.proofs.Finite.{is_mode→eq, eq→is_mode}
use Rattle.relay_preflight.specs.Table.{mask_limit}
use Rattle.relay_batt.proofs.SoundTest.{zero_back, sound_test as battery_test, test_sound as battery_back}
use Rattle.falcon_state.specs.declared.point.Point.{Point}
use Rattle.falcon_state.specs.declared.zone.Zone.{Zone}
use Rattle.falcon_state.specs.Point.{origin, nowhere, max_waypoints}
use Rattle.falcon_state.specs.Zone.{no_zone, no_place, max_keepout_zones}
use Rattle.falcon_guidance.specs.Mission.{waypoint_admissible_of}
use Rattle.falcon_events.specs.Failsafe.{tilt_runaway_cycles}
use Rattle.falcon_core.specs.declared.supervisor.Supervisor.{Supervisor}
use Rattle.falcon_core.specs.Calls.{Request, step_of}
use Rattle.falcon_core.specs.SoundState.{limits_sound_of, points_sound_of, leg_sound_of, tilt_sound_of, zero_point, zero_zone, unused_sound_of, sound_supervisor_of, SoundTilt, SoundFlight, FitPoint, FitZone, FitFlight}
use Rattle.falcon_core.proofs.Invariant.{step_sound}

-- ---- the places, in use and not

module _ {A : Type 0} (test : A → Bool) (d : A) (l : List A) (n : ℕ) where
  used_test : n ≤ length l → ((i : ℕ) → i < n → test (get_or l i d) ≡ true) → list_all test (take n l) ≡ true
  used_test few h =
      list_all-from_AllPass test (take n l)
      (λ i e p.
      let q : i < n = omega (arith, length-take n l) in
      ap test (get_or-take n l i e q ∙ get_or_default l i e d (omega arith)) ∙ h i q)

  used_back : n ≤ length l → list_all test (take n l) ≡ true → (i : ℕ) → i < n → test (get_or l i d) ≡ true
  used_back few t i p = ap test (sym (get_or-take n l i d p)) ∙ AllPass-from_list_all test (take n l) t i d (omega (arith, length-take n l))

  unused_test : ((i : ℕ) → n ≤ i → i < length l → test (get_or l i d) ≡ true) → list_all test (drop n l) ≡ true
  unused_test h =
      list_all-from_AllPass test (drop n l)
      (λ i e p.
      let q : n + i < length l = omega (arith, length-drop n l) in
      ap test (get_or-drop n l i e ∙ get_or_default l (n + i) e d q) ∙ h (n + i) (omega arith) q)

  unused_back : list_all test (drop n l) ≡ true → (i : ℕ) → n ≤ i → i < length l → test (get_or l i d) ≡ true
  unused_back t i p q =
      let k : i ≡ n + (i - n) = omega arith in
      rw k (ap test (sym (get_or-drop n l (i - n) d)) ∙ AllPass-from_list_all test (drop n l) t (i - n) d (omega (arith, length-drop n l)))

origin_zero : zero_point origin ≡ true
unfolding to_bits of_bits
origin_zero = refl

no_zone_zero : zero_zone no_zone ≡ true
unfolding to_bits of_bits
no_zone_zero = refl

origin_back : (p : Point) → FitPoint p → zero_point p ≡ true → p ≡ origin
origin_back p f t =
    let xyz = and_parts _ _ t in
    let xy = and_parts _ _ xyz.0 in
    λ i. record { x = zero_back p.x f.x (T_from_true _ xy.0) i; y = zero_back p.y f.y (T_from_true _ xy.1) i; z = zero_back p.z f.z (T_from_true _ xyz.1) i }

no_zone_back : (z : Zone) → FitZone z → zero_zone z ≡ true → z ≡ no_zone
no_zone_back z f t =
    let both = and_parts _ _ t in
    λ i. record { center = origin_back z.center f.center both.0 i; radius = zero_back z.radius f.radius (T_from_true _ both.1) i }

-- ---- the tilt count

tilt_test : (m : Mode) (n : ℕ) → SoundTilt m n → tilt_sound_of m n ≡ true
unfolding tilt_sound_of
tilt_test m n h =
    and_from _ _ (le-leb n tilt_runaway_cycles h.at_most)
    (elim (dec_lt n tilt_runaway_cycles) [
      | yes p ↦ or_left _ _ (lt-ltb n tilt_runaway_cycles p)
      | no q ↦ or_right _ _ (is_true _ (eq→is_mode m Terminated (h.ended (omega (arith, h.at_most)))))
    ])

tilt_back : (m : Mode) (n : ℕ) → tilt_sound_of m n ≡ true → SoundTilt m n
unfolding tilt_sound_of
tilt_back m n t =
    let a = and_parts (leb n tilt_runaway_cycles) (ltb n tilt_runaway_cycles || is_mode m Terminated) t in
    record {
      at_most = leb-true n tilt_runaway_cycles a.0;
      ended = λ q.
          elim (or_cases (ltb n tilt_runaway_cycles) (is_mode m Terminated) a.1) [
            | inl u ↦ absurd (omega (arith, ltb-true n tilt_runaway_cycles u))
            | inr u ↦ is_mode→eq m Terminated (T_from_true _ u)
          ];
    }

-- ---- the whole state

-- a sound state passes every test
pub sound_test : (s : Supervisor) → SoundFlight s.flight s.waypoints → T (sound_supervisor_of s)
unfolding sound_supervisor_of limits_sound_of points_sound_of leg_sound_of unused_sound_of
sound_test s k =
    let f = s.flight in
    let ps = s.waypoints in
    let m = f.mission in
    let zs = f.zones in
    let points = k.mission.places in
    let zones = k.zones in
    simp (
      lt-ltb f.check_table.required mask_limit k.checks.required_below,
      lt-ltb f.check_table.passed mask_limit k.checks.passed_below,
      le-leb m.wp_count max_waypoints points.few,
      le-leb zs.zone_count max_keepout_zones zones.few,
      used_test (waypoint_admissible_of f.config) nowhere ps m.wp_count (omega (arith, points.few, points.long)) (λ i h. is_true _ (points.fit i h)),
      le-leb m.wp_index (m.wp_count - 1) k.mission.leg,
      tilt_test f.fsm.mode f.counts.runaway_count k.tilt,
      battery_test f.battery k.battery,
      eq-eqb (length ps) max_waypoints points.long,
      unused_test zero_point nowhere ps m.wp_count (λ i p q. rw (points.beyond i p (omega (arith, points.long))) origin_zero),
      eq-eqb (length zs.zones) max_keepout_zones zones.long,
      unused_test zero_zone no_place zs.zones zs.zone_count (λ i p q. rw (zones.beyond i p (omega (arith, zones.long))) no_zone_zero),
    ) tt

-- a state of f32 values that passes every test is sound
pub test_sound : (s : Supervisor) → FitFlight s.flight s.waypoints → T (sound_supervisor_of s) → SoundFlight s.flight s.waypoints
unfolding sound_supervisor_of limits_sound_of points_sound_of leg_sound_of unused_sound_of
test_sound s f t =
    let a = and_parts _ _ (is_true (sound_supervisor_of s) t) in
    let b = and_parts _ _ a.0 in
    let c = and_parts _ _ b.0 in
    let d = and_parts _ _ c.0 in
    let e = and_parts _ _ d.0 in
    let zones_few = and_parts _ _ e.0 in
    let points_few = and_parts _ _ zones_few.0 in
    let masks = and_parts _ _ points_few.0 in
    let zones_unused = and_parts _ _ a.1 in
    let zones_long = and_parts _ _ zones_unused.0 in
    let points_unused = and_parts _ _ zones_long.0 in
    let m = s.flight.mission in
    let zs = s.flight.zones in
    let ps_few : m.wp_count ≤ max_waypoints = leb-true _ _ points_few.1 in
    let ps_long : length s.waypoints ≡ max_waypoints = eqb-true _ _ points_unused.0 in
    let zs_long : length zs.zones ≡ max_keepout_zones = eqb-true _ _ zones_long.1 in
    record {
      checks = record { required_below = ltb-true _ _ masks.0; passed_below = ltb-true _ _ masks.1 };
      mission = record {
        places = record {
          long = ps_long;
          few = ps_few;
          beyond = λ i p q. origin_back _ (f.waypoints i) (unused_back zero_point nowhere s.waypoints m.wp_count points_unused.1 i p (omega arith));
          fit = λ i p. T_from_true _ (used_back (waypoint_admissible_of s.flight.config) nowhere s.waypoints m.wp_count (omega arith) e.1 i p);
        };
        leg = leb-true _ _ d.1;
      };
      zones = record {
        long = zs_long;
        few = leb-true _ _ zones_few.1;
        beyond = λ i p q. no_zone_back _ (f.zones i) (unused_back zero_zone no_place zs.zones zs.zone_count zones_unused.1 i p (omega arith));
        fit = λ i p. tt;
      };
      tilt = tilt_back s.flight.fsm.mode s.flight.counts.runaway_count c.1;
      battery = battery_back s.flight.battery f.battery b.1;
    }

-- one call, refused or accepted, from any sound state of f32 values, reached or read back
pub sound_step : (s : Supervisor) (r : Request) → FitFlight s.flight s.waypoints → T (sound_supervisor_of s) → T (sound_supervisor_of (step_of s r).supervisor)
sound_step s r f t = sound_test (step_of s r).supervisor (step_sound s r (test_sound s f t))
