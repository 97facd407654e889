-- A latch that has tripped stays so, and the critical flag shown is its latch.
use Rattle.std.proofs.Common.{◌≡◌, Bool, true, List, [], ◌∷◌, refl}
use lib.Ieee.{Float}
use Rattle.relay_batt.specs.Latch.{trip_of}
use Rattle.relay_batt.specs.Estimator.{shown_of, with_amps_of, volts_only_of, estimator_update_of}
use Rattle.relay_batt.specs.Battery.{heard_of, update_of, Turn, run_of}
use Rattle.relay_batt.specs.declared.latch.TripLatch.{TripLatch}
use Rattle.relay_batt.specs.declared.battery.Battery.{Battery}
use Rattle.relay_batt.specs.declared.battery.Reading.{Reading}
use Rattle.relay_batt.specs.declared.battery.Reading.TheVariants.{Nothing, Volts, VoltsAmps}

-- "never release": a latch that has tripped is left as it is
pub latch_stays : (l : TripLatch) (dt : Float) (below : Bool) (debounce : Float) → l.latched ≡ true → trip_of l dt below debounce ≡ l
unfolding trip_of
latch_stays l dt below debounce e = simp e

pub low_stays : (b : Battery) (dt : Float) (r : Reading) → b.est.low.latched ≡ true → (update_of b dt r).est.low.latched ≡ true
unfolding update_of heard_of estimator_update_of volts_only_of with_amps_of
low_stays b dt Nothing e = e
low_stays b dt (Volts volts) e = rw (latch_stays b.est.low _ _ _ e) e
low_stays b dt (VoltsAmps volts amps) e = rw (latch_stays b.est.low _ _ _ e) e

pub critical_stays : (b : Battery) (dt : Float) (r : Reading) → b.est.critical.latched ≡ true → (update_of b dt r).est.critical.latched ≡ true
unfolding update_of heard_of estimator_update_of volts_only_of with_amps_of
critical_stays b dt Nothing e = e
critical_stays b dt (Volts volts) e = rw (latch_stays b.est.critical _ _ _ e) e
critical_stays b dt (VoltsAmps volts amps) e = rw (latch_stays b.est.critical _ _ _ e) e

pub low_stays_run : (b : Battery) (l : List Turn) → b.est.low.latched ≡ true → (run_of b l).est.low.latched ≡ true
unfolding run_of
low_stays_run b [] e = e
low_stays_run b (t ∷ l) e = low_stays_run (update_of b t.dt t.reading) l (low_stays b t.dt t.reading e)

pub critical_stays_run : (b : Battery) (l : List Turn) → b.est.critical.latched ≡ true → (run_of b l).est.critical.latched ≡ true
unfolding run_of
critical_stays_run b [] e = e
critical_stays_run b (t ∷ l) e = critical_stays_run (update_of b t.dt t.reading) l (critical_stays b t.dt t.reading e)

-- the critical flag shown is its latch
pub critical_shown : (b : Battery) (dt : Float) (r : Reading) → b.state.critical ≡ b.est.critical.latched → (update_of b dt r).state.critical ≡ (update_of b dt r).est.critical.latched
unfolding update_of heard_of estimator_update_of volts_only_of with_amps_of shown_of
critical_shown b dt Nothing e = e
critical_shown b dt (Volts volts) e = refl
critical_shown b dt (VoltsAmps volts amps) e = refl
