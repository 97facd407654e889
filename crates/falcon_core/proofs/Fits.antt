-- The floats of the state stay f32 values where those of the calls are.
use Prim.Native.Nat.{ℕ, ◌+◌, ◌*◌}
use mathlib.Core.Bool.{◌||◌}
use mathlib.Core.List.{List}
use lib.ListN.{get_or}
use lib.Ieee.{Float, nan, binary32, add, lt, le}
use lib.Ieee.Bits.{of_bits-fits}
use lib.Ieee.Fits.{cond-fits, nan-fits, add-fits, sub-fits}
use Rattle.relay_math.specs.Small.{f32_zero}
use Rattle.relay_fsm.specs.declared.Mode.{Mode}
use Rattle.relay_batt.specs.Config.{pack_cells, for_opening_volts_of}
use Rattle.relay_batt.specs.Fits.{Fit}
use Rattle.relay_batt.proofs.Fits.{fits_update, fits_new, fits_pack}
use Rattle.falcon_state.specs.declared.hold.Hold.{Hold}
use Rattle.falcon_state.specs.declared.flight.Opening.{Opening}
use Rattle.falcon_state.specs.declared.tick.Tick.{Tick}
use Rattle.falcon_state.specs.Point.{origin, nowhere, max_waypoints}
use Rattle.falcon_state.specs.Zone.{no_zone, no_place, max_keepout_zones}
use Rattle.falcon_state.specs.Flight.{opened_of}
use Rattle.falcon_guidance.specs.Mission.{no_points_of, tried_of, stored_points_of, loaded_points_of}
use Rattle.falcon_state.specs.Point.{point_at_of}
use Rattle.falcon_state.specs.Zone.{zone_at_of}
use Rattle.falcon_guidance.specs.Zones.{zones_kept_of, stored_zones_of, loaded_zones_of}
use Rattle.falcon_guidance.specs.Hold.{holds_of, hold_rest_ms, hold_rest_s, hold_brake_max_s, horiz_speed_of, brake_point_of, entered_of, brake_rest_of, braked_of, left_of, in_regime_of, held_of}
use Rattle.falcon_guidance.proofs.Waypoints.{tried_places}
use Rattle.falcon_events.specs.Failsafe.{report_of}
use Rattle.falcon_tick.specs.Tick.{after_tick, tick_of}
use Rattle.falcon_core.specs.declared.supervisor.Supervisor.{Supervisor}
use Rattle.falcon_core.specs.Calls.{Request, opens, ticks, reports, commands, plans, points, zones, unopened, command_of, planned_of, flight_after, waypoints_after, after_of, step_of}
use Rattle.falcon_core.specs.SoundState.{FitPoint, FitZone, FitHold, FitFlight, FitOpening, FitRequest}
use Rattle.falcon_core.proofs.Refused.{step_keeps}
use Rattle.falcon_core.proofs.Parts.{cond_keeps}
use Rattle.falcon_core.proofs.Places.{filled_holds, replicate_holds, kept_places}

-- ---- points and zones

zero_fits : Fit f32_zero
zero_fits = of_bits-fits binary32 0

pub origin_fits : FitPoint origin
origin_fits = record { x = zero_fits; y = zero_fits; z = zero_fits }

pub no_zone_fits : FitZone no_zone
no_zone_fits = record { center = origin_fits; radius = zero_fits }

nowhere_fits : FitPoint nowhere
nowhere_fits = record { x = nan-fits binary32; y = nan-fits binary32; z = nan-fits binary32 }

no_place_fits : FitZone no_place
no_place_fits = record { center = nowhere_fits; radius = nan-fits binary32 }

module _ (l : List Float) (h : (i : ℕ) → Fit (get_or l i nan)) (i : ℕ) where
  point_fits : FitPoint (point_at_of l i)
  unfolding point_at_of
  point_fits = record { x = h (3 * i); y = h (3 * i + 1); z = h (3 * i + 2) }

  zone_fits : FitZone (zone_at_of l i)
  unfolding zone_at_of
  zone_fits = record { center = record { x = h (4 * i); y = h (4 * i + 1); z = h (4 * i + 2) }; radius = h (4 * i + 3) }

-- ---- the hold

module _ (h : Hold) (t : Tick) (p : FitPoint t.p) where
  braked_fits : FitHold (braked_of h t)
  unfolding braked_of brake_rest_of brake_point_of
  braked_fits =
      let brake = add-fits binary32 h.brake_s t.dt in
      let rest : Fit (brake_rest_of h t) = cond-fits binary32 (lt (horiz_speed_of t) hold_rest_ms) _ f32_zero (add-fits binary32 h.brake_rest_s t.dt) zero_fits in
      cond_keeps FitHold (le hold_rest_s (brake_rest_of h t) || le hold_brake_max_s (add binary32 h.brake_s t.dt)) _ _
      (record { x = p.x; y = p.y; brake = brake; rest = rest })
      (record { x = sub-fits binary32 t.p.x _; y = sub-fits binary32 t.p.y _; brake = brake; rest = rest })

  entered_fits : (m : Mode) → FitHold h → FitHold (entered_of h m t)
  unfolding entered_of
  entered_fits m k = cond_keeps FitHold h.hold_regime h _ k (record { x = p.x; y = p.y; brake = zero_fits; rest = zero_fits })

held_fits : (h : Hold) (m : Mode) (t : Tick) → FitHold h → FitPoint t.p → FitHold (held_of h m t)
unfolding held_of in_regime_of left_of
held_fits h m t k p =
    let e = entered_of h m t in
    cond_keeps FitHold (holds_of m) (in_regime_of h m t) (left_of h)
    (cond_keeps FitHold e.hold_braking (braked_of e t) e (braked_fits e t p) (entered_fits h t p m k))
    (record { x = k.x; y = k.y; brake = k.brake; rest = k.rest })

-- ---- the calls

opened_fits : (o : Opening) → FitOpening o → FitFlight (opened_of o) no_points_of
unfolding opened_of
opened_fits o k = record {
  config = record { home = k.home; fence = k.fence; cruise = k.cruise; volts = k.volts };
  battery = fits_new (for_opening_volts_of o.low_batt_v) (fits_pack pack_cells o.low_batt_v);
  waypoints = λ i. replicate_holds FitPoint nowhere origin max_waypoints i nowhere_fits origin_fits;
  zones = λ i. replicate_holds FitZone no_place no_zone max_keepout_zones i no_place_fits no_zone_fits;
  hold = record { x = k.home.x; y = k.home.y; brake = zero_fits; rest = zero_fits };
}

after_fits : (s : Supervisor) (r : Request) → FitRequest r → FitFlight s.flight s.waypoints → FitFlight (after_of s r).flight (after_of s r).waypoints
unfolding after_of flight_after waypoints_after tick_of after_tick report_of command_of planned_of loaded_points_of stored_points_of loaded_zones_of stored_zones_of
after_fits s (opens o) h k = opened_fits o h
after_fits s (ticks t) h k = record {
  config = k.config;
  battery = fits_update s.flight.battery t.dt t.reading k.battery h.reading;
  waypoints = k.waypoints;
  zones = k.zones;
  hold = held_fits s.flight.hold _ t k.hold h.p;
}
after_fits s (reports failed) h k = record { config = k.config; battery = k.battery; waypoints = k.waypoints; zones = k.zones; hold = k.hold }
after_fits s (commands ev level low) h k = record { config = k.config; battery = k.battery; waypoints = k.waypoints; zones = k.zones; hold = k.hold }
after_fits s (plans (points l)) h k = record {
  config = k.config;
  battery = k.battery;
  waypoints = λ i. filled_holds FitPoint nowhere origin max_waypoints (point_at_of l) (tried_of l) i (tried_places l) nowhere_fits origin_fits (point_fits l h);
  zones = k.zones;
  hold = k.hold;
}
after_fits s (plans (zones l)) h k = record {
  config = k.config;
  battery = k.battery;
  waypoints = k.waypoints;
  zones = λ i. filled_holds FitZone no_place no_zone max_keepout_zones (zone_at_of l) (zones_kept_of l) i (kept_places l) no_place_fits no_zone_fits (zone_fits l h);
  hold = k.hold;
}
after_fits s r h k = k

-- one call
pub fits_step : (s : Supervisor) (r : Request) → FitRequest r → FitFlight s.flight s.waypoints → FitFlight (step_of s r).supervisor.flight (step_of s r).supervisor.waypoints
fits_step s r h k = step_keeps s r (λ (u : Supervisor). FitFlight u.flight u.waypoints) k (λ e. after_fits s r h k)

-- the state with no opening
pub fits_unopened : FitFlight unopened.flight unopened.waypoints
unfolding unopened
fits_unopened = opened_fits _ (record { home = origin_fits; fence = zero_fits; cruise = zero_fits; volts = zero_fits })
