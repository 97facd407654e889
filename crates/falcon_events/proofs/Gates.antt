-- The gates that the code hands the mode machine in flight are the definition's.
use Rattle.std.specs.Prelude.{◌≡◌, refl}
use Rattle.falcon_events.specs.declared.failsafe.TheConstants.{IN_FLIGHT}
use Rattle.falcon_events.specs.Failsafe.{in_flight_of}

pub in_flight_is : IN_FLIGHT ≡ in_flight_of
in_flight_is = refl
