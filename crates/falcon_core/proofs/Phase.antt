-- A critical battery in the air: Rtl or further after one tick, and Land, Disarmed or Terminated after two, whatever else the ticks and reports bring.
use Prim.Native.Nat.{ℕ, zero, suc}
use mathlib.Core.Bool.{Bool, true, not, ◌&&◌, ◌||◌}
use mathlib.Core.Path.{◌≡◌}
use lib.Dec.{T}
use lib.Ieee.Fits.{and_i, and_r}
use Rattle.std.proofs.lemmas.Float.{T_from_true}
use Rattle.relay_math.proofs.Order.{or_l, or_r}
use Rattle.relay_fsm.specs.declared.Mode.{Mode}
use Rattle.relay_fsm.specs.declared.Mode.TheVariants.{Armed, Rtl}
use Rattle.relay_fsm.specs.Mode.{is_mode, is_airborne_of}
use Rattle.relay_fsm.specs.Fsm.{row_of, on_of}
use Rattle.relay_fsm.proofs.Finite.{◌⇒◌, then, at_m}
use Rattle.relay_batt.specs.declared.battery.Battery.{Battery}
use Rattle.relay_batt.specs.Battery.{lost_of}
use Rattle.falcon_state.specs.declared.mission.Legs.{Legs}
use Rattle.falcon_state.specs.declared.tick.Tick.{Tick}
use Rattle.falcon_state.specs.declared.flight.FlightSupervisor.{FlightSupervisor}
use Rattle.falcon_events.specs.Failsafe.{breach_of, report_of}
use Rattle.falcon_tick.specs.Tick.{outside, battery, after_breach, tick_of}
use Rattle.falcon_core.specs.Land.{landing_or_off_of}
use Rattle.falcon_core.proofs.Rules.{Rule2, breach_rule, report_rule, breach_by, report_by, later_keep, stages_keep, later_keeps}

-- how many ticks with a critical battery are behind: none, one, or more; Armed is in no phase
abbrev pub phase_of : ℕ → Mode → Bool
phase_of zero m = not (is_mode m Armed)
phase_of (suc zero) m = is_mode m Rtl || landing_or_off_of m
phase_of (suc (suc n)) m = landing_or_off_of m

-- the air is in phase 0
pub airborne_phase : (m : Mode) → T (is_airborne_of m) → T (phase_of 0 m)
airborne_phase m h = then (is_airborne_of m) (phase_of 0 m) (at_m (λ m. is_airborne_of m ⇒ phase_of 0 m) tt m) h

-- the stages of a tick keep each phase, and so does a report

stages_phase : (n : ℕ) → T (stages_keep (phase_of n))
unfolding row_of on_of
stages_phase zero = tt
stages_phase (suc zero) = tt
stages_phase (suc (suc n)) = tt

report_phase : (k : ℕ) → T (report_rule (λ failed m n. phase_of k m ⇒ phase_of k n))
unfolding row_of on_of
report_phase zero = tt
report_phase (suc zero) = tt
report_phase (suc (suc k)) = tt

pub report_keeps_phase :
    (k : ℕ) (f : FlightSupervisor) (failed : Bool) → T (phase_of k f.fsm.mode) → T (phase_of k (report_of f failed).fsm.mode)
report_keeps_phase k f failed h =
    then (phase_of k f.fsm.mode) (phase_of k (report_of f failed).fsm.mode)
    (report_by (λ failed m n. phase_of k m ⇒ phase_of k n) (report_phase k) f failed) h

-- a critical battery is a breach

breach_critical : (b : Battery) (out : Bool) → b.state.critical ≡ true → T (breach_of b out)
breach_critical b out e =
    let low : Bool = b.state.low in
    let c : Bool = b.state.critical in
    or_r out (low || c || lost_of b) (or_l (low || c) (lost_of b) (or_r low c (T_from_true c e)))

-- and leads one phase on

abbrev onwards : ℕ → Rule2
onwards k breach critical m n = (breach && critical) ⇒ (phase_of k m ⇒ phase_of (suc k) n)

breach_phase : (k : ℕ) → T (breach_rule (onwards k))
unfolding row_of on_of
breach_phase zero = tt
breach_phase (suc zero) = tt
breach_phase (suc (suc k)) = tt

pub tick_phase :
    (k : ℕ) (f : FlightSupervisor) (l : Legs) (t : Tick)
    → (battery f l t).state.critical ≡ true
    → T (phase_of k f.fsm.mode)
    → T (phase_of (suc k) (tick_of f l t).flight.fsm.mode)
tick_phase k f l t e h =
    let m : Mode = f.fsm.mode in
    let n : Mode = (after_breach f l t).mode in
    let b : Bool = breach_of (battery f l t) (outside f l t) in
    let c : Bool = (battery f l t).state.critical in
    let breach : T b = breach_critical (battery f l t) (outside f l t) e in
    let on : T (phase_of k m ⇒ phase_of (suc k) n) =
    then (b && c) (phase_of k m ⇒ phase_of (suc k) n) (breach_by f l t (onwards k) (breach_phase k)) (and_i b c breach (T_from_true c e)) in
    later_keeps (phase_of (suc k)) f l t
    (and_r (breach_rule (λ b c m n. phase_of (suc k) m ⇒ phase_of (suc k) n)) (later_keep (phase_of (suc k))) (stages_phase (suc k)))
    (then (phase_of k m) (phase_of (suc k) n) on h)
