-- What an accepted call leaves of the flight as it was: the planner all but its list, and every call but an opening the configuration.
use mathlib.Core.Bool.{Bool, true, false, cond}
use mathlib.Core.Path.{◌≡◌, refl, subst}
use lib.Dec.{T}
use Rattle.falcon_state.specs.declared.flight.FlightSupervisor.{FlightSupervisor}
use Rattle.falcon_core.specs.declared.supervisor.Supervisor.{Supervisor}
use Rattle.falcon_events.specs.Failsafe.{report_of}
use Rattle.falcon_tick.specs.Tick.{after_tick, tick_of}
use Rattle.falcon_core.specs.Calls.{Request, Planning, opens, plans, points, is_opening, command_of, planned_of, flight_after, after_of, step_of}
use Rattle.falcon_core.proofs.Refused.{step_keeps}

-- what holds of both holds of the one that a test takes
pub cond_keeps : {A : Type 0} (P : A → Type 0) (b : Bool) (x y : A) → P x → P y → P (cond b x y)
cond_keeps P true x y h k = h
cond_keeps P false x y h k = k

-- what the planner asks leaves the mode, the battery and the counts
module _ (f : FlightSupervisor) where
  pub planned_mode : (p : Planning) → (planned_of f p).fsm.mode ≡ f.fsm.mode
  unfolding planned_of
  planned_mode (points l) = refl
  planned_mode p = refl

  pub planned_battery : (p : Planning) → (planned_of f p).battery ≡ f.battery
  unfolding planned_of
  planned_battery (points l) = refl
  planned_battery p = refl

  pub planned_counts : (p : Planning) → (planned_of f p).counts ≡ f.counts
  unfolding planned_of
  planned_counts (points l) = refl
  planned_counts p = refl

-- an accepted call that is no opening leaves the configuration
pub after_config : (s : Supervisor) (r : Request) → is_opening r ≡ false → (after_of s r).flight.config ≡ s.flight.config
unfolding after_of flight_after tick_of after_tick report_of command_of planned_of
after_config s (opens o) h = absurd (subst T h tt)
after_config s (plans (points l)) h = refl
after_config s r h = refl

-- a configuration changes only by an opening
pub config_kept : (s : Supervisor) (r : Request) → is_opening r ≡ false → (step_of s r).supervisor.flight.config ≡ s.flight.config
config_kept s r h = step_keeps s r (λ (u : Supervisor). u.flight.config ≡ s.flight.config) refl (λ e. after_config s r h)
