-- U2: the columns of a line of kind 9, numbered as in docs/RECORD.md.
use Rattle.std.specs.Prelude.{ℕ, zero, suc, Bool, cond, List, [], ◌∷◌, ◌++◌, ltb, get_or, replicate}
use Rattle.relay_math.specs.Small.{flag_number, bits}
use Rattle.relay_fsm.specs.Mode.{mode_number}
use Rattle.relay_batt.specs.Numbers.{battery_numbers_of}
use Rattle.falcon_state.specs.declared.point.Point.{Point}
use Rattle.falcon_state.specs.declared.zone.Zone.{Zone}
use Rattle.falcon_state.specs.declared.config.Config.{Config}
use Rattle.falcon_state.specs.declared.zone.Zones.{Zones}
use Rattle.falcon_state.specs.declared.hold.Hold.{Hold}
use Rattle.falcon_state.specs.Config.{opening_number}
use Rattle.falcon_state.specs.Point.{origin, nowhere}
use Rattle.falcon_state.specs.Zone.{no_zone, no_place, max_keepout_zones}
use Rattle.falcon_state.specs.declared.flight.FlightSupervisor.{FlightSupervisor}
use Rattle.falcon_totals.specs.Totals.{totals_numbers}
use Rattle.falcon_core.specs.declared.supervisor.Supervisor.{Supervisor}
use Rattle.falcon_record.specs.Form.{Form, target_numbers}

-- the kind of the line
abbrev pub record_kind : ℕ
record_kind = 9

-- 2 to 9: home, fence, cruise height, opening volts, cells, calibration
unfoldable pub config_columns : Config → ℕ → List ℕ
config_columns c cells =
    bits c.home.x ∷ bits c.home.y ∷ bits c.home.z ∷ bits c.fence_radius ∷ bits c.cruise_alt ∷ bits c.low_batt_v ∷ cells ∷ flag_number c.calibration_configured ∷ []

-- 10 to 12: the masks and the mode
unfoldable pub check_columns : FlightSupervisor → List ℕ
check_columns f = f.check_table.required ∷ f.check_table.passed ∷ mode_number f.fsm.mode ∷ []

-- 34 to 39: the hold point, the regime, braking and its two times
unfoldable pub hold_columns : Hold → List ℕ
hold_columns h =
    bits h.hold_xy.x ∷ bits h.hold_xy.y ∷ flag_number h.hold_regime ∷ flag_number h.hold_braking ∷ bits h.brake_s ∷ bits h.brake_rest_s ∷ []

-- 40 to 43: the tilt and wind counts, the failsafe latch, the motors
unfoldable pub count_columns : FlightSupervisor → List ℕ
count_columns f = f.counts.runaway_count ∷ f.counts.wind_count ∷ flag_number f.rtl_latched ∷ flag_number f.motors_were_off ∷ []

-- 53 to 55: point count, leg, zone count
unfoldable pub use_columns : FlightSupervisor → List ℕ
use_columns f = f.mission.wp_count ∷ f.mission.wp_index ∷ f.zones.zone_count ∷ []

-- the columns before the first point: 13 to 33 are the battery's, the estimator, the state shown from 22 on and the silence from 31 on; 44 to 52 are the
-- totals. U2: "Totals are part of it"
unfoldable pub scalar_columns : Supervisor → List ℕ
scalar_columns s =
    let f = s.flight in
    record_kind ∷ config_columns f.config f.battery.est.cfg.cells
    ++ check_columns f
    ++ battery_numbers_of f.battery
    ++ hold_columns f.hold
    ++ count_columns f
    ++ totals_numbers s.totals
    ++ use_columns f

-- f 0, f 1 and so on, n stretches
unfoldable pub placed : (ℕ → List ℕ) → ℕ → List ℕ
placed f zero = []
placed f (suc n) = placed f n ++ f n

-- place i of which so many are in use. U2: "Places beyond the point or zone count are written 0"
unfoldable pub place_in : {A : Type 0} → A → A → List A → ℕ → ℕ → A
place_in d z l count i = cond (ltb i count) (get_or l i d) z

-- three numbers a point
unfoldable pub point_columns : Point → List ℕ
point_columns p = bits p.x ∷ bits p.y ∷ bits p.z ∷ []

unfoldable pub points_columns : Form → Supervisor → List ℕ
points_columns form s = placed (λ i. point_columns (place_in nowhere origin s.waypoints s.flight.mission.wp_count i)) form.places

-- no top: +infinity
abbrev pub no_top : ℕ
no_top = 0x7f80_0000

-- a zone: centre and radius, and a top where the form has one
unfoldable pub zone_columns : Bool → ℕ → Zone → List ℕ
zone_columns tops top z = bits z.center.x ∷ bits z.center.y ∷ bits z.center.z ∷ bits z.radius ∷ cond tops (top ∷ []) []

unfoldable pub zones_columns : Form → Zones → List ℕ
zones_columns form zs =
    placed
    (λ i. zone_columns form.has_tops (cond (ltb i zs.zone_count) no_top 0) (place_in no_place no_zone zs.zones zs.zone_count i))
    max_keepout_zones

-- the opening's kind, U5: "Kind 9 records which opening was used", and no target
unfoldable pub later_columns : Form → Config → List ℕ
later_columns form c = cond form.has_opening (opening_number c.opening_kind ∷ []) [] ++ cond form.has_target (replicate target_numbers 0) []

-- the columns from the first point on
abbrev pub place_columns : Form → Supervisor → List ℕ
place_columns form s = points_columns form s ++ (zones_columns form s.flight.zones ++ later_columns form s.flight.config)

-- U2: "write its state as the columns of a line of kind 9"
unfoldable pub columns_in : Form → Supervisor → List ℕ
columns_in form s = scalar_columns s ++ place_columns form s
