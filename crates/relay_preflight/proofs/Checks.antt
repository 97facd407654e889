-- Every check stands in `all_checks`, so that a test holds of no check where `find` finds none there.
use mathlib.Core.Path.{◌≡◌, refl, subst}
use mathlib.Core.Bool.{Bool, true, false, cond}
use mathlib.Core.List.{List, [], ◌∷◌}
use Prim.Native.Nat.{ℕ, ◌≤◌, ◌<◌}
use native.Mathlib.Nat.{lt_of_lt_of_le}
use borrow.Author.Tests.{leb-false}
use lib.Dec.{leb}
use Rattle.std.specs.Prelude.{Some, None, find}
use Rattle.relay_preflight.specs.Check.{check_count, check_number, check_at, all_checks}
use Rattle.relay_preflight.specs.declared.CheckId.{CheckId}
use Rattle.relay_preflight.specs.declared.CheckId.TheVariants.{SensorsHealthy, EstimatorConverged, CalibrationPresent, GeofenceLoaded, BatteryOk, FailsafeConfigured, EstimatorInnovation}
use Rattle.relay_preflight.specs.declared.CheckId.TheVariants.{GnssAgreement, ParamsFromNvm, GeofenceSane, ThresholdsOrdered, SensorsFresh, EscTelemetry, BatteryTakeoffMargin}
use Rattle.relay_preflight.specs.declared.CheckId.TheVariants.{RangefinderPlausible, CalibrationFresh, RcLink, GcsLink, NoFailsafeLatched, MotorsHealthy, InsideGeofence}

-- a check's number is read as that check
pub check_at_number : (id : CheckId) → check_at (check_number id) ≡ Some id
unfolding check_at all_checks
check_at_number SensorsHealthy = refl
check_at_number EstimatorConverged = refl
check_at_number CalibrationPresent = refl
check_at_number GeofenceLoaded = refl
check_at_number BatteryOk = refl
check_at_number FailsafeConfigured = refl
check_at_number EstimatorInnovation = refl
check_at_number GnssAgreement = refl
check_at_number ParamsFromNvm = refl
check_at_number GeofenceSane = refl
check_at_number ThresholdsOrdered = refl
check_at_number SensorsFresh = refl
check_at_number EscTelemetry = refl
check_at_number BatteryTakeoffMargin = refl
check_at_number RangefinderPlausible = refl
check_at_number CalibrationFresh = refl
check_at_number RcLink = refl
check_at_number GcsLink = refl
check_at_number NoFailsafeLatched = refl
check_at_number MotorsHealthy = refl
check_at_number InsideGeofence = refl

-- what is found by one test fails another that finds nothing
found_fails : (p f : CheckId → Bool) (l : List CheckId) (x : CheckId) → find p l ≡ Some x → find f l ≡ None → f x ≡ false
found_fails p f [] x e h = cc
found_fails p f (y ∷ ys) x e h = go (p y) (f y) refl e h (found_fails p f ys x)
  where
    go : (a b : Bool) → f y ≡ b → cond a (Some y) (find p ys) ≡ Some x → cond b (Some y) (find f ys) ≡ None
        → (find p ys ≡ Some x → find f ys ≡ None → f x ≡ false) → f x ≡ false
    go a true q e h rest = cc
    go true false q e h rest = let s : y ≡ x = cc in subst (λ z. f z ≡ false) s q
    go false false q e h rest = rest e h

pub none_passes : (f : CheckId → Bool) → find f all_checks ≡ None → (id : CheckId) → f id ≡ false
unfolding check_at
none_passes f h id = found_fails _ f all_checks id (check_at_number id) h

pub none_found : (f : CheckId → Bool) → ((id : CheckId) → f id ≡ false) → (l : List CheckId) → find f l ≡ None
none_found f h [] = refl
none_found f h (x ∷ xs) = simp (h x, none_found f h xs)

-- a check's number is below 21
pub number_lt : (id : CheckId) → check_number id < check_count
unfolding all_checks
number_lt id = leb-false check_count (check_number id) (none_passes (λ x. leb check_count (check_number x)) refl id)

-- a check's number is a bit of a mask of w bits
pub number_in : (w : ℕ) → check_count ≤ w → (id : CheckId) → check_number id < w
number_in w h id = lt_of_lt_of_le (number_lt id) h
