-- `update_preflight` and the ESC telemetry row: the checks that a tick sets.
use Rattle.std.specs.Prelude.{Bool, true, false, cond, not, ◌&&◌, ◌||◌, Float}
use Rattle.std.specs.Float.Ieee.{lt, le}
use Rattle.std.specs.Float.Ieee.Scale.{finite}
use Rattle.relay_math.specs.Small.{f32, f32_zero}
use Rattle.relay_preflight.specs.declared.CheckTable.{CheckTable}
use Rattle.relay_preflight.specs.declared.CheckId.TheVariants.{SensorsHealthy, EstimatorConverged, CalibrationPresent, GeofenceLoaded, BatteryOk, EstimatorInnovation, GnssAgreement, GeofenceSane, BatteryTakeoffMargin, MotorsHealthy, InsideGeofence, NoFailsafeLatched, EscTelemetry}
use Rattle.relay_preflight.specs.Table.{set_of, is_required_of}
use Rattle.relay_batt.specs.declared.battery.Battery.{Battery}
use Rattle.relay_batt.specs.declared.estimator.BattState.{BattState}
use Rattle.falcon_state.specs.declared.config.Config.{Config}
use Rattle.falcon_state.specs.declared.tick.Tick.{Tick}

-- `PREARM_TILT_UNCERT_MAX` 0.02, and the charge 0.30 that the takeoff draw wants
abbrev pub prearm_tilt_uncert_max : Float
prearm_tilt_uncert_max = f32 0x3ca3_d70a

abbrev pub takeoff_margin_soc : Float
takeoff_margin_soc = f32 0x3e99_999a

-- the GeofenceSane row: a finite fence above 0 and a finite home
unfoldable pub geofence_sane_of : Config → Bool
geofence_sane_of c =
    finite c.fence_radius && lt f32_zero c.fence_radius && (finite c.home.x && finite c.home.y && finite c.home.z)

-- the rows that the estimator and the configuration decide, in the Rust's order
unfoldable pub nav_rows_of : CheckTable → Config → Tick → CheckTable
nav_rows_of k c t =
    let k = set_of k SensorsHealthy (not t.nav_compromised) in
    let k = set_of k EstimatorConverged (lt t.tilt_uncertainty prearm_tilt_uncert_max) in
    let k = set_of k CalibrationPresent c.calibration_configured in
    set_of k GeofenceLoaded (lt f32_zero c.fence_radius)

-- the BatteryOk row and the nav integrity rows
unfoldable pub integrity_rows_of : CheckTable → Battery → Tick → CheckTable
integrity_rows_of k b t =
    let k = set_of k BatteryOk (b.present && not (b.state.low || b.state.critical)) in
    let k = set_of k EstimatorInnovation (not t.nav_compromised) in
    set_of k GnssAgreement (not t.gnss_diverged)

-- the remaining rows: what still blocks arming once the latch is cleared, the hazards themselves among them
unfoldable pub readiness_rows_of : CheckTable → Config → BattState → Bool → Bool → Bool → CheckTable
readiness_rows_of k c s latched outside failed =
    let k = set_of k GeofenceSane (geofence_sane_of c) in
    let k = set_of k BatteryTakeoffMargin (s.degraded || le takeoff_margin_soc s.soc) in
    let k = set_of k MotorsHealthy (not failed) in
    let k = set_of k InsideGeofence (not outside) in
    set_of k NoFailsafeLatched (not latched && not s.low && not s.critical)

-- `update_preflight`, "from the battery state BEFORE this tick's reading"
unfoldable pub update_preflight_of : CheckTable → Config → Battery → Bool → Bool → Tick → CheckTable
update_preflight_of k c b latched outside t =
    readiness_rows_of (integrity_rows_of (nav_rows_of k c t) b t) c b.state latched outside t.failed_motor

-- "EscTelemetry passes with rpm, and fails without rpm only if required."
unfoldable pub esc_telemetry_of : CheckTable → Bool → CheckTable
esc_telemetry_of k rpm = cond rpm (set_of k EscTelemetry true) (cond (is_required_of k EscTelemetry) (set_of k EscTelemetry false) k)
