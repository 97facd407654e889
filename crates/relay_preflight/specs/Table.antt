-- The check table of document 01, "Check table": two masks, and what is read off them.
use Rattle.std.specs.Prelude.{Bool, true, cond, not, ◌&&◌, ℕ, ◌-◌, ◌/◌, ◌%◌, ◌^◌, eqb}
use Rattle.std.specs.Int.Bits.{bit_and, bit_or}
use Rattle.std.specs.Int.Count.{ones}
use Rattle.relay_preflight.specs.Check.{check_count, check_number}
use Rattle.relay_preflight.specs.declared.CheckId.{CheckId}
use Rattle.relay_preflight.specs.declared.CheckId.TheVariants.{SensorsHealthy, EstimatorConverged, CalibrationPresent, GeofenceLoaded, BatteryOk, FailsafeConfigured}
use Rattle.relay_preflight.specs.declared.CheckTable.{CheckTable}

-- a "mask of 2^21 or more" is refused: the limit of both masks
abbrev pub mask_limit : ℕ
mask_limit = 2 ^ check_count

-- "bit n of a mask is check n": whether bit n of a mask is set
unfoldable pub bit_of : ℕ → ℕ → Bool
bit_of m n = eqb (m / 2 ^ n % 2) 1

-- a mask of 32 bits, with bit n set or cleared
unfoldable pub with_bit_of : ℕ → ℕ → Bool → ℕ
with_bit_of m n b = cond b (bit_or m (2 ^ n)) (bit_and m (2 ^ 32 - 1 - 2 ^ n))

-- `CheckTable::new`: "the opening gives the required and the passed mask"
abbrev pub new_table_of : ℕ → ℕ → CheckTable
new_table_of required passed = record { required = required; passed = passed }

-- `CheckTable::set`: "setting a check changes its passed bit and no other"
unfoldable pub set_of : CheckTable → CheckId → Bool → CheckTable
set_of t id b = record { required = t.required; passed = with_bit_of t.passed (check_number id) b }

-- "checks 0..5 are then set passed, as `with_core` does"
unfoldable pub legacy_passed_of : CheckTable → CheckTable
legacy_passed_of t =
    set_of
    (set_of
    (set_of (set_of (set_of (set_of t SensorsHealthy true) EstimatorConverged true) CalibrationPresent true) GeofenceLoaded true)
    BatteryOk true)
    FailsafeConfigured true

-- `CheckTable::is_required`: the check's bit of the required mask
abbrev pub is_required_of : CheckTable → CheckId → Bool
is_required_of t id = bit_of t.required (check_number id)

-- `CheckTable::passed`: the check's bit of the passed mask
abbrev pub passed_of : CheckTable → CheckId → Bool
passed_of t id = bit_of t.passed (check_number id)

-- the test of the Rust's `arm_check_table`: a "failing required check"
unfoldable pub fails_of : CheckTable → CheckId → Bool
fails_of t id = is_required_of t id && not (passed_of t id)

-- "required and not passed", at every bit of the masks: the Rust's `prearm_failing_mask`
unfoldable pub failing_mask_of : CheckTable → ℕ
failing_mask_of t = bit_and t.required (2 ^ 32 - 1 - t.passed)

-- "The count of outstanding checks is had by counting the ones of required and not passed."
unfoldable pub outstanding_of : CheckTable → ℕ
outstanding_of t = ones (failing_mask_of t)
