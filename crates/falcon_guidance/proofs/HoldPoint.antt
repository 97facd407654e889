-- The hold point is latched on entry to Takeoff or Loiter and kept from the one to the other.
use mathlib.Core.Bool.{true, false, ◌||◌}
use mathlib.Core.Path.{◌≡◌}
use lib.Dec.{T}
use lib.Ieee.Bits.{is_true}
use Rattle.relay_fsm.specs.declared.Mode.{Mode}
use Rattle.relay_fsm.specs.declared.Mode.TheVariants.{Takeoff, Loiter}
use Rattle.relay_fsm.specs.Mode.{is_mode}
use Rattle.falcon_state.specs.declared.tick.Tick.{Tick}
use Rattle.falcon_state.specs.declared.hold.Hold.{Hold}
use Rattle.falcon_guidance.specs.Hold.{holds_of, entered_of, in_regime_of, held_of}

-- no new hold point on Takeoff to Loiter, nor within either, once braking is over
pub hold_kept :
    (h : Hold) (m : Mode) (t : Tick)
    → T (is_mode m Takeoff || is_mode m Loiter)
    → h.hold_regime ≡ true
    → h.hold_braking ≡ false
    → held_of h m t ≡ h
unfolding held_of in_regime_of entered_of
hold_kept h m t i r b = simp (is_true (holds_of m) i, r, b)
