-- Every call, refused or accepted and whatever it asks, keeps a sound state sound.
use Prim.Native.Nat.{ℕ, ◌+◌, ◌-◌, ◌≤◌, ◌<◌, min}
use native.Mathlib.Decide.{dec_lt}
use native.Mathlib.Omega.{arith}
use borrow.Author.Tests.{not-false, ltb-true, leb-false, le-leb, ne_eqb}
use mathlib.Core.Bool.{Bool, true, false, cond, ◌&&◌, ◌||◌}
use mathlib.Core.List.{List}
use mathlib.Core.Path.{◌≡◌, refl, sym, ap, ◌∙◌, subst}
use lib.Dec.{T, eqb, ltb, leb, lit<, lit≤}
use Rattle.std.specs.Prelude.{Option, Some, None}
use Rattle.std.proofs.lemmas.Bool.{or_parts}
use Rattle.relay_fsm.specs.declared.Mode.{Mode}
use Rattle.relay_fsm.specs.declared.Mode.TheVariants.{Mission as InMission}
use Rattle.relay_fsm.specs.declared.Event.{Event}
use Rattle.relay_fsm.specs.declared.Gates.{Gates}
use Rattle.relay_fsm.specs.Mode.{is_mode, is_airborne_of}
use Rattle.relay_fsm.proofs.Laws.{terminated_stays, terminate_ends}
use Rattle.relay_preflight.specs.declared.CheckTable.{CheckTable}
use Rattle.relay_preflight.specs.declared.CheckId.{CheckId}
use Rattle.relay_preflight.specs.declared.CheckId.TheVariants.{EscTelemetry}
use Rattle.relay_preflight.specs.Check.{check_count}
use Rattle.relay_preflight.specs.Table.{mask_limit, new_table_of, set_of, is_required_of, legacy_passed_of}
use Rattle.relay_preflight.proofs.Laws.{set_required, set_lt, legacy_required, legacy_lt}
use Rattle.relay_batt.specs.declared.battery.Battery.{Battery}
use Rattle.relay_batt.specs.Config.{for_opening_volts_of}
use Rattle.relay_batt.proofs.Sound.{sound_new, sound_update}
use Rattle.falcon_state.specs.declared.config.Config.{Config}
use Rattle.falcon_state.specs.declared.mission.Mission.{Mission}
use Rattle.falcon_state.specs.declared.mission.Legs.{Legs}
use Rattle.falcon_state.specs.declared.flight.Opening.{Opening}
use Rattle.falcon_state.specs.declared.flight.FlightSupervisor.{FlightSupervisor}
use Rattle.falcon_state.specs.declared.point.Point.{Point}
use Rattle.falcon_state.specs.declared.zone.Zone.{Zone}
use Rattle.falcon_state.specs.declared.tick.Tick.{Tick}
use Rattle.falcon_state.specs.Point.{origin, nowhere, max_waypoints}
use Rattle.falcon_state.specs.Zone.{no_zone, no_place, max_keepout_zones}
use Rattle.falcon_state.specs.Flight.{opened_of}
use Rattle.falcon_guidance.specs.Mission.{no_points_of, waypoint_admissible_of, tried_of, all_admissible_of, leg_waypoint_of, current_waypoint_of}
use Rattle.falcon_guidance.proofs.Waypoints.{waypoint_within}
use Rattle.falcon_events.specs.declared.failsafe.FailsafeState.{FailsafeState}
use Rattle.falcon_events.specs.Failsafe.{mode_given_of, mode_after, breach_gives, breached_of, tilted_of, tilt_runaway_cycles, runaway_count_of, runaway_enough, runaway_event, runaway_counted, runaway_gives, runaway_of, wind_gives, wind_of, report_of}
use Rattle.falcon_events.specs.Milestone.{arrived_of, milestone_of}
use Rattle.falcon_tick.specs.Preflight.{nav_rows_of, integrity_rows_of, readiness_rows_of, update_preflight_of, esc_telemetry_of}
use Rattle.falcon_tick.specs.Tick.{before_breach, after_breach, after_runaway, after_wind, reached, after_tick, tick_of}
use Rattle.falcon_core.specs.declared.supervisor.Supervisor.{Supervisor}
use Rattle.falcon_core.specs.Calls.{Request, opens, ticks, reports, commands, plans, points, zones, unopened, command_of, refusal_of, legs_in, planned_of, flight_after, waypoints_after, after_of, step_of}
use Rattle.falcon_core.specs.SoundState.{SoundChecks, SoundMission, SoundTilt, SoundFlight}
use Rattle.falcon_core.proofs.Refused.{accepted_passed, step_keeps}
use Rattle.falcon_core.proofs.Parts.{cond_keeps}
use Rattle.falcon_core.proofs.Places.{untouched, sound_loaded, sound_zones_loaded}

-- ---- the checks

set_sound : (k : CheckTable) (id : CheckId) (b : Bool) → SoundChecks k → SoundChecks (set_of k id b)
set_sound k id b h = record { required_below = rw (set_required k id b) h.required_below; passed_below = set_lt check_count (lit≤ tt) k id b h.passed_below }

preflight_sound : (k : CheckTable) (c : Config) (b : Battery) (latched outside : Bool) (t : Tick) → SoundChecks k → SoundChecks (update_preflight_of k c b latched outside t)
unfolding update_preflight_of readiness_rows_of integrity_rows_of nav_rows_of
preflight_sound k c b latched outside t h = search set_sound depth 14

telemetry_sound : (k : CheckTable) (rpm : Bool) → SoundChecks k → SoundChecks (esc_telemetry_of k rpm)
unfolding esc_telemetry_of
telemetry_sound k rpm h =
    cond_keeps SoundChecks rpm _ _ (set_sound k EscTelemetry true h)
    (cond_keeps SoundChecks (is_required_of k EscTelemetry) _ k (set_sound k EscTelemetry false h) h)

-- ---- the leg

-- it moves on only where another point follows
leg_next : (met : Bool) (i n : ℕ) → i ≤ n - 1 → cond (met && ltb (i + 1) n) (i + 1) i ≤ n - 1
leg_next false i n h = h
leg_next true i n h = go (ltb (i + 1) n) refl
  where
    go : (more : Bool) → ltb (i + 1) n ≡ more → cond more (i + 1) i ≤ n - 1
    go true e = omega (arith, ltb-true (i + 1) n e)
    go false e = h

-- ---- the tilt count

-- no event leaves Terminated
event_tilt : (m : Mode) (n : ℕ) (e : Option Event) (g : Gates) → SoundTilt m n → SoundTilt (mode_given_of m e g) n
event_tilt m n None g k = k
event_tilt m n (Some e) g k = record { at_most = k.at_most; ended = λ q. rw (k.ended q) (terminated_stays e g) }

-- an airborne mode has a count below 50
airborne_below : (m : Mode) (n : ℕ) → is_airborne_of m ≡ true → SoundTilt m n → n < tilt_runaway_cycles
airborne_below m n a k =
    elim (dec_lt n tilt_runaway_cycles) [
      | yes p ↦ p
      | no q ↦
          let e : n ≡ tilt_runaway_cycles = omega (arith, k.at_most) in
          absurd (subst T (sym (sym (ap is_airborne_of (k.ended e)) ∙ a)) tt)
    ]

-- the count is 50 only where the tick gives Terminate
counted_tilt : (m : Mode) (n : ℕ) (airborne tilted : Bool) → is_airborne_of m ≡ airborne → SoundTilt m n
    → SoundTilt (mode_after m (runaway_event m tilted (runaway_enough (runaway_count_of m tilted n)))) (runaway_count_of m tilted n)
unfolding runaway_enough
counted_tilt m n true true a k =
    let low : n < tilt_runaway_cycles = airborne_below m n a k in
    let c : runaway_count_of m true n ≡ n + 1 = rw a (omega arith) in
    record {
      at_most = rw c (omega arith);
      ended = λ q. let e : leb tilt_runaway_cycles (runaway_count_of m true n) ≡ true = le-leb tilt_runaway_cycles (runaway_count_of m true n) (omega arith) in rw (e, a) (terminate_ends m _);
    }
counted_tilt m n true false a k = record { at_most = rw a (omega arith); ended = λ q. absurd (omega (arith, rw a at q)) }
counted_tilt m n false tilted a k = record { at_most = rw a (omega arith); ended = λ q. absurd (omega (arith, rw a at q)) }

-- the failsafes
abbrev TiltOf : FailsafeState → Type 0
TiltOf s = SoundTilt s.mode s.counts.runaway_count

module _ (s : FailsafeState) (k : TiltOf s) where
  breached_tilt : (b : Battery) (outside : Bool) → TiltOf (breached_of s b outside)
  unfolding breached_of
  breached_tilt b outside = event_tilt s.mode _ (breach_gives s b outside) _ k

  runaway_tilt : (t : Tick) → TiltOf (runaway_of s t)
  unfolding runaway_of runaway_gives runaway_counted
  runaway_tilt t = counted_tilt s.mode s.counts.runaway_count (is_airborne_of s.mode) (tilted_of t) refl k

  wind_tilt : (t : Tick) → TiltOf (wind_of s t)
  unfolding wind_of
  wind_tilt t = event_tilt s.mode _ (wind_gives s t) _ k

-- ---- the calls

masks_below : (required passed : ℕ) → (leb mask_limit required || leb mask_limit passed) ≡ false → SoundChecks (new_table_of required passed)
masks_below required passed e =
    let both = or_parts (leb mask_limit required) (leb mask_limit passed) e in
    record { required_below = leb-false mask_limit required both.0; passed_below = leb-false mask_limit passed both.1 }

legacy_sound : (k : CheckTable) → SoundChecks k → SoundChecks (legacy_passed_of k)
legacy_sound k h = record { required_below = rw (legacy_required k) h.required_below; passed_below = legacy_lt check_count (lit≤ tt) k h.passed_below }

-- an opening with masks below 2^21
opened_sound : (o : Opening) → SoundChecks (new_table_of o.required o.passed) → SoundFlight (opened_of o) no_points_of
unfolding opened_of
opened_sound o k = record {
  checks = legacy_sound (new_table_of o.required o.passed) k;
  mission = record { places = untouched (λ (p : Point). T (waypoint_admissible_of _ p)) nowhere origin max_waypoints; leg = lit≤ tt };
  zones = untouched (λ (z : Zone). Unit {0}) no_place no_zone max_keepout_zones;
  tilt = record { at_most = lit≤ tt; ended = λ q. absurd (omega arith) };
  battery = sound_new (for_opening_volts_of o.low_batt_v);
}

-- an accepted opening starts from a sound flight
pub start_sound : (s : Supervisor) (o : Opening) → refusal_of s (opens o) ≡ None → SoundFlight (opened_of o) no_points_of
start_sound s o e = opened_sound o (masks_below o.required o.passed (accepted_passed s (opens o) e).in_range)

-- a tick, part by part
tick_sound : (f : FlightSupervisor) (ps : List Point) (l : Legs) (t : Tick) → SoundFlight f ps → SoundFlight (tick_of f l t).flight ps
unfolding tick_of after_tick reached milestone_of after_wind after_runaway after_breach before_breach
tick_sound f ps l t k = record {
  checks = telemetry_sound _ t.motor_rpm (preflight_sound f.check_table f.config f.battery _ _ t k.checks);
  mission = record {
    places = k.mission.places;
    leg = leg_next (is_mode (after_wind f l t).mode InMission && arrived_of l.here t.p) f.mission.wp_index f.mission.wp_count k.mission.leg;
  };
  zones = k.zones;
  tilt = event_tilt _ _ _ _ (wind_tilt _ (runaway_tilt _ (breached_tilt _ k.tilt _ _) t) t);
  battery = sound_update f.battery t.dt t.reading k.battery;
}

-- an accepted call
pub after_sound : (s : Supervisor) (r : Request) → SoundFlight s.flight s.waypoints → refusal_of s r ≡ None → SoundFlight (after_of s r).flight (after_of s r).waypoints
unfolding after_of flight_after waypoints_after report_of command_of planned_of
after_sound s (opens o) k e = start_sound s o e
after_sound s (ticks t) k e = tick_sound s.flight s.waypoints (legs_in s) t k
after_sound s (reports failed) k e =
    record { checks = k.checks; mission = k.mission; zones = k.zones; tilt = event_tilt s.flight.fsm.mode _ _ _ k.tilt; battery = k.battery }
after_sound s (commands ev level low) k e =
    record { checks = k.checks; mission = k.mission; zones = k.zones; tilt = event_tilt s.flight.fsm.mode _ (Some ev) _ k.tilt; battery = k.battery }
after_sound s (plans (points l)) k e =
    let t : all_admissible_of s.flight.config l (tried_of l) ≡ true = not-false _ (accepted_passed s (plans (points l)) e).admissible in
    record { checks = k.checks; mission = sound_loaded s.flight.config l (rw t tt); zones = k.zones; tilt = k.tilt; battery = k.battery }
after_sound s (plans (zones l)) k e = record { checks = k.checks; mission = k.mission; zones = sound_zones_loaded l; tilt = k.tilt; battery = k.battery }
after_sound s r k e = k

-- a call, refused or accepted, keeps a sound state sound
pub step_sound : (s : Supervisor) (r : Request) → SoundFlight s.flight s.waypoints → SoundFlight (step_of s r).supervisor.flight (step_of s r).supervisor.waypoints
step_sound s r k = step_keeps s r (λ (u : Supervisor). SoundFlight u.flight u.waypoints) k (after_sound s r k)

-- the state with no opening is sound
pub unopened_sound : SoundFlight unopened.flight unopened.waypoints
unfolding unopened
unopened_sound = opened_sound _ (record { required_below = lit< tt; passed_below = lit< tt })

-- the point flown to is the active leg's, and admissible, where there are points
pub current_admissible : (c : Config) (ps : List Point) (m : Mission) → SoundMission c ps m → 0 < m.wp_count → T (waypoint_admissible_of c (current_waypoint_of c ps m))
unfolding current_waypoint_of leg_waypoint_of
current_admissible c ps m k h =
    let i = min m.wp_index (m.wp_count - 1) in
    let some_points : eqb m.wp_count 0 ≡ false = ne_eqb m.wp_count 0 (λ e. omega arith) in
    let place = waypoint_within ps i (omega (arith, k.places.few, k.places.long)) in
    rw some_points (subst (λ (p : Point). T (waypoint_admissible_of c p)) place (k.places.fit i (omega arith)))
