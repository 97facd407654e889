-- In Rtl a breach is a failsafe where the battery is critical, and only there.
use Rattle.std.specs.Prelude.{◌≡◌, Bool, true, false, refl}
use Rattle.relay_fsm.specs.declared.Mode.TheVariants.{Rtl}
use Rattle.falcon_events.specs.Failsafe.{breach_fails}

pub breach_in_rtl : (critical : Bool) → breach_fails Rtl true critical ≡ critical
breach_in_rtl true = refl
breach_in_rtl false = refl
