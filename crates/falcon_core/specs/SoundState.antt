-- What is true of every state that a list of calls leads to, as one test and as records, and which floats of states and calls are f32 values.
use Rattle.std.specs.Prelude.{ℕ, zero, suc, ◌-◌, ◌≤◌, ◌<◌, ◌≡◌, Bool, ◌&&◌, ◌||◌, List, [], ◌∷◌, ◌++◌, T, eqb, ltb, leb, length, get_or, take, drop}
use Rattle.std.specs.List.{list_all}
use Rattle.std.specs.Float.{nan}
use Rattle.relay_fsm.specs.declared.Mode.{Mode}
use Rattle.relay_fsm.specs.declared.Mode.TheVariants.{Terminated}
use Rattle.relay_fsm.specs.Mode.{is_mode}
use Rattle.relay_preflight.specs.declared.CheckTable.{CheckTable}
use Rattle.relay_preflight.specs.Table.{mask_limit}
use Rattle.relay_batt.specs.Sound.{Sound as SoundBattery, sound_battery_of, plus_zero}
use Rattle.relay_batt.specs.Fits.{Fit, FitBattery, FitReading}
use Rattle.falcon_state.specs.declared.point.Point.{Point}
use Rattle.falcon_state.specs.declared.zone.Zone.{Zone}
use Rattle.falcon_state.specs.declared.config.Config.{Config}
use Rattle.falcon_state.specs.declared.mission.Mission.{Mission}
use Rattle.falcon_state.specs.declared.zone.Zones.{Zones}
use Rattle.falcon_state.specs.declared.hold.Hold.{Hold}
use Rattle.falcon_state.specs.declared.flight.Opening.{Opening}
use Rattle.falcon_state.specs.declared.tick.Tick.{Tick}
use Rattle.falcon_state.specs.declared.flight.FlightSupervisor.{FlightSupervisor}
use Rattle.falcon_state.specs.Point.{origin, nowhere, max_waypoints}
use Rattle.falcon_state.specs.Zone.{no_zone, no_place, max_keepout_zones}
use Rattle.falcon_guidance.specs.Mission.{waypoint_admissible_of}
use Rattle.falcon_events.specs.Failsafe.{tilt_runaway_cycles}
use Rattle.falcon_core.specs.declared.supervisor.Supervisor.{Supervisor}
use Rattle.falcon_core.specs.Calls.{Request, opens, ticks, plans, points, zones}

-- f 0, f 1 and so on, n of them
unfoldable pub first_of : {A : Type 0} → (ℕ → A) → ℕ → List A
first_of f zero = []
first_of f (suc n) = first_of f n ++ (f n ∷ [])

-- ---- the test

-- both masks are below 2^21, as "mask of 2^21 or more" is refused, and at most 16 points and 8 zones are in use
unfoldable pub limits_sound_of : CheckTable → Mission → Zones → Bool
limits_sound_of k m zs =
    ltb k.required mask_limit && ltb k.passed mask_limit && leb m.wp_count max_waypoints && leb zs.zone_count max_keepout_zones

-- "Every point in use is admissible."
unfoldable pub points_sound_of : Config → List Point → Mission → Bool
points_sound_of c ps m = list_all (waypoint_admissible_of c) (take m.wp_count ps)

-- the leg number is below the point count, and 0 for an empty list
unfoldable pub leg_sound_of : Mission → Bool
leg_sound_of m = leb m.wp_index (m.wp_count - 1)

-- the tilt count is at most 50, and 50 only in Terminated
unfoldable pub tilt_sound_of : Mode → ℕ → Bool
tilt_sound_of m n = leb n tilt_runaway_cycles && (ltb n tilt_runaway_cycles || is_mode m Terminated)

-- a point of zeros, and a zone of zeros
abbrev pub zero_point : Point → Bool
zero_point p = plus_zero p.x && plus_zero p.y && plus_zero p.z

abbrev pub zero_zone : Zone → Bool
zero_zone z = zero_point z.center && plus_zero z.radius

-- there are 16 places for points and 8 for zones, and those that are not in use are 0
unfoldable pub unused_sound_of : List Point → Mission → Zones → Bool
unused_sound_of ps m zs =
    eqb (length ps) max_waypoints
    && list_all zero_point (drop m.wp_count ps)
    && eqb (length zs.zones) max_keepout_zones
    && list_all zero_zone (drop zs.zone_count zs.zones)

-- all of them, and the battery's: latches equal to the flags shown, charge, used and resistance within their bounds, what one `update` leaves for the
-- next finite, and all zero before a reading
unfoldable pub sound_supervisor_of : Supervisor → Bool
sound_supervisor_of s =
    let f = s.flight in
    limits_sound_of f.check_table f.mission f.zones
    && points_sound_of f.config s.waypoints f.mission
    && leg_sound_of f.mission
    && tilt_sound_of f.fsm.mode f.counts.runaway_count
    && sound_battery_of f.battery
    && unused_sound_of s.waypoints f.mission f.zones

-- ---- the same as records

-- the checks of `limits_sound_of`
pub record SoundChecks (k : CheckTable) : Type 0 where
  pub required_below : k.required < mask_limit
  pub passed_below : k.passed < mask_limit

-- an array of `size` places, at most so many in use: what is in use is `Held`, every other place has z; d is what is read past the end
pub record Tidy {A : Type 0} (Held : A → Type 0) (d z : A) (size : ℕ) (l : List A) (count : ℕ) : Type 0 where
  pub long : length l ≡ size
  pub few : count ≤ size
  pub beyond : (i : ℕ) → count ≤ i → i < size → get_or l i d ≡ z
  pub fit : (i : ℕ) → i < count → Held (get_or l i d)

-- the points in use are admissible by the configuration, the other places are the origin, and the leg is below the count
pub record SoundMission (c : Config) (ps : List Point) (m : Mission) : Type 0 where
  pub places : Tidy (λ p. T (waypoint_admissible_of c p)) nowhere origin max_waypoints ps m.wp_count
  pub leg : m.wp_index ≤ m.wp_count - 1

-- the zones in use are untested, the other places are empty
abbrev pub SoundZones : Zones → Type 0
SoundZones zs = Tidy (λ z. Unit {0}) no_place no_zone max_keepout_zones zs.zones zs.zone_count

-- `tilt_sound_of`
pub record SoundTilt (m : Mode) (n : ℕ) : Type 0 where
  pub at_most : n ≤ tilt_runaway_cycles
  pub ended : n ≡ tilt_runaway_cycles → m ≡ Terminated

-- every part of the flight, over these waypoints
pub record SoundFlight (f : FlightSupervisor) (ps : List Point) : Type 0 where
  pub checks : SoundChecks f.check_table
  pub mission : SoundMission f.config ps f.mission
  pub zones : SoundZones f.zones
  pub tilt : SoundTilt f.fsm.mode f.counts.runaway_count
  pub battery : SoundBattery f.battery

-- ---- the floats are f32 values: in definitions a float may be one that no f32 holds

-- those of a point
pub record FitPoint (p : Point) : Type 0 where
  pub x : Fit p.x
  pub y : Fit p.y
  pub z : Fit p.z

-- those of a zone
pub record FitZone (z : Zone) : Type 0 where
  pub center : FitPoint z.center
  pub radius : Fit z.radius

-- those of a configuration
pub record FitConfig (c : Config) : Type 0 where
  pub home : FitPoint c.home
  pub fence : Fit c.fence_radius
  pub cruise : Fit c.cruise_alt
  pub volts : Fit c.low_batt_v

-- those of a hold
pub record FitHold (h : Hold) : Type 0 where
  pub x : Fit h.hold_xy.x
  pub y : Fit h.hold_xy.y
  pub brake : Fit h.brake_s
  pub rest : Fit h.brake_rest_s

-- those of a state
pub record FitFlight (f : FlightSupervisor) (ps : List Point) : Type 0 where
  pub config : FitConfig f.config
  pub battery : FitBattery f.battery
  pub waypoints : (i : ℕ) → FitPoint (get_or ps i nowhere)
  pub zones : (i : ℕ) → FitZone (get_or f.zones.zones i no_place)
  pub hold : FitHold f.hold

-- those of an opening
pub record FitOpening (o : Opening) : Type 0 where
  pub home : FitPoint o.home
  pub fence : Fit o.fence_radius
  pub cruise : Fit o.cruise_alt
  pub volts : Fit o.low_batt_v

-- those of a tick that the state keeps
pub record FitTick (t : Tick) : Type 0 where
  pub p : FitPoint t.p
  pub reading : FitReading t.reading

-- those of a call that the state keeps: every lent f32 is one
abbrev pub FitRequest : Request → Type 0
FitRequest (opens o) = FitOpening o
FitRequest (ticks t) = FitTick t
FitRequest (plans (points l)) = (i : ℕ) → Fit (get_or l i nan)
FitRequest (plans (zones l)) = (i : ℕ) → Fit (get_or l i nan)
FitRequest r = Unit {0}
