-- The checks of document 01, "Check table": their numbers, both ways, and the order in which the gate tries them.
use Rattle.std.specs.Prelude.{ℕ, List, [], ◌∷◌, eqb, find, Option}
use Rattle.relay_preflight.specs.declared.CheckId.{CheckId}
use Rattle.relay_preflight.specs.declared.CheckId.TheVariants.{SensorsHealthy, EstimatorConverged, CalibrationPresent, GeofenceLoaded, BatteryOk, FailsafeConfigured, EstimatorInnovation}
use Rattle.relay_preflight.specs.declared.CheckId.TheVariants.{GnssAgreement, ParamsFromNvm, GeofenceSane, ThresholdsOrdered, SensorsFresh, EscTelemetry, BatteryTakeoffMargin}
use Rattle.relay_preflight.specs.declared.CheckId.TheVariants.{RangefinderPlausible, CalibrationFresh, RcLink, GcsLink, NoFailsafeLatched, MotorsHealthy, InsideGeofence}

-- the Rust's `CHECK_COUNT`
abbrev pub check_count : ℕ
check_count = 21

-- "Checks are numbered as `CheckId`, 0..20": the discriminants of the Rust's `CheckId`
abbrev pub check_number : CheckId → ℕ
check_number SensorsHealthy = 0
check_number EstimatorConverged = 1
check_number CalibrationPresent = 2
check_number GeofenceLoaded = 3
check_number BatteryOk = 4
check_number FailsafeConfigured = 5
check_number EstimatorInnovation = 6
check_number GnssAgreement = 7
check_number ParamsFromNvm = 8
check_number GeofenceSane = 9
check_number ThresholdsOrdered = 10
check_number SensorsFresh = 11
check_number EscTelemetry = 12
check_number BatteryTakeoffMargin = 13
check_number RangefinderPlausible = 14
check_number CalibrationFresh = 15
check_number RcLink = 16
check_number GcsLink = 17
check_number NoFailsafeLatched = 18
check_number MotorsHealthy = 19
check_number InsideGeofence = 20

-- the Rust's `CheckId::ALL`: every check, in gate (priority) order, which is not that of the numbers
unfoldable pub all_checks : List CheckId
all_checks =
    SensorsHealthy
    ∷ EstimatorConverged
    ∷ CalibrationPresent
    ∷ GeofenceLoaded
    ∷ BatteryOk
    ∷ FailsafeConfigured
    ∷ EstimatorInnovation
    ∷ GnssAgreement
    ∷ ParamsFromNvm
    ∷ GeofenceSane
    ∷ InsideGeofence
    ∷ ThresholdsOrdered
    ∷ SensorsFresh
    ∷ EscTelemetry
    ∷ MotorsHealthy
    ∷ BatteryTakeoffMargin
    ∷ RangefinderPlausible
    ∷ CalibrationFresh
    ∷ RcLink
    ∷ GcsLink
    ∷ NoFailsafeLatched
    ∷ []

-- `CheckId::try_from`: the check with a number, none above 20
unfoldable pub check_at : ℕ → Option CheckId
check_at n = find (λ id. eqb (check_number id) n) all_checks
