-- A latch after a step is the one before, an excursion that goes on, or a new one: what holds of the three holds of it.
use Rattle.std.proofs.Common.{Bool, cond}
use Rattle.std.proofs.lemmas.Bool.{cond_both}
use lib.Ieee.{Float, binary32, add}
use Rattle.relay_batt.specs.Latch.{new_latch_of, excursion_of, trip_of}
use Rattle.relay_batt.specs.declared.latch.TripLatch.{TripLatch}

pub trip_holds : (P : TripLatch → Type 0) (l : TripLatch) (dt : Float) (below : Bool) (debounce : Float)
    → P l → P (excursion_of (add binary32 l.below_s dt) debounce) → P new_latch_of → P (trip_of l dt below debounce)
unfolding trip_of
trip_holds P l dt below debounce p q r =
    let both : (b : Bool) (x y : TripLatch) → P x → P y → P (cond b x y) = λ b x y h k. cond_both b x y P (λ e. h) (λ e. k) in
    search (both, p, q, r)
