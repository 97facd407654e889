-- When a tick enters Terminated: the count of ticks in a row airborne and tilted, and the tick on which it is enough; and what else leads there.
use Prim.Native.Nat.{ℕ}
use mathlib.Core.Bool.{Bool, true, false, ◌&&◌, ◌||◌, cond, beq}
use mathlib.Core.Logic.{◌⊎◌}
use mathlib.Core.Path.{◌≡◌, refl, sym, ◌∙◌, ap}
use lib.Dec.{T}
use denote.Floats.{is_true}
use Rattle.std.specs.Cmp.{booleans_Decides}
use Rattle.relay_math.specs.Small.{saturating_add_of}
use Rattle.relay_fsm.specs.declared.Mode.{Mode}
use Rattle.relay_fsm.specs.declared.Mode.TheVariants.{Terminated}
use Rattle.relay_fsm.specs.declared.Event.{Event}
use Rattle.relay_fsm.specs.declared.Event.TheVariants.{Terminate}
use Rattle.relay_fsm.specs.Mode.{is_mode, is_airborne_of}
use Rattle.relay_fsm.specs.Fsm.{row_of, on_of}
use Rattle.relay_fsm.proofs.Laws.{terminated_stays, terminate_ends, only_terminate_ends}
use Rattle.falcon_state.specs.declared.flight.Counts.{Counts}
use Rattle.falcon_state.specs.declared.mission.Legs.{Legs}
use Rattle.falcon_state.specs.declared.tick.Tick.{Tick}
use Rattle.falcon_state.specs.declared.flight.FlightSupervisor.{FlightSupervisor}
use Rattle.falcon_events.specs.Failsafe.{tilted_of, runaway_enough, runaway_counted, report_of}
use Rattle.falcon_tick.specs.Tick.{after_breach, after_runaway, after_wind, reached, tick_of}
use Rattle.falcon_core.specs.Calls.{command_of}
use Rattle.falcon_core.proofs.Stages.{breach_counts, tick_mode, tick_counts, command_mode}
use Rattle.falcon_core.proofs.Rules.{breach_by, runaway_by, wind_by, milestone_by, report_by}

same→eq : (a b : Bool) → T (beq a b) → a ≡ b
same→eq a b t = (booleans_Decides a b).0 (is_true (beq a b) t)

-- only a count that goes on can be enough
enough_of : (going : Bool) (n : ℕ) → (going && runaway_enough (cond going n 0)) ≡ (going && runaway_enough n)
enough_of true n = refl
enough_of false n = refl

module _ (f : FlightSupervisor) (l : Legs) (t : Tick) where
  -- the breach keeps the flight in the air or out of it
  breach_airborne : is_airborne_of (after_breach f l t).mode ≡ is_airborne_of f.fsm.mode
  unfolding row_of on_of
  breach_airborne = same→eq _ _ (breach_by f l t (λ b c m n. beq (is_airborne_of n) (is_airborne_of m)) tt)

  -- the ticks in a row that began airborne with tilt strictly above 1.05: every other tick sets the count to 0
  count_is : runaway_counted (after_breach f l t) t ≡ cond (is_airborne_of f.fsm.mode && tilted_of t) (saturating_add_of f.counts.runaway_count 1) 0
  unfolding runaway_counted
  count_is = rw (breach_airborne, breach_counts f l t)

  pub tick_runaway_count :
      (tick_of f l t).flight.counts.runaway_count
      ≡ cond (is_airborne_of f.fsm.mode && tilted_of t) (saturating_add_of f.counts.runaway_count 1) 0
  tick_runaway_count = ap (λ (n : Counts). n.runaway_count) (tick_counts f l t) ∙ count_is

  -- the runaway alone leads to Terminated
  breach_ends : is_mode (after_breach f l t).mode Terminated ≡ is_mode f.fsm.mode Terminated
  unfolding row_of on_of
  breach_ends = same→eq _ _ (breach_by f l t (λ b c m n. beq (is_mode n Terminated) (is_mode m Terminated)) tt)

  runaway_ends :
      is_mode (after_runaway f l t).mode Terminated
      ≡ (is_mode (after_breach f l t).mode Terminated
      || (is_airborne_of (after_breach f l t).mode && tilted_of t && runaway_enough (runaway_counted (after_breach f l t) t)))
  unfolding row_of on_of
  runaway_ends =
      same→eq _ _ (runaway_by f l t (λ tilted enough m n. beq (is_mode n Terminated) (is_mode m Terminated || (is_airborne_of m && tilted && enough))) tt)

  wind_ends : is_mode (after_wind f l t).mode Terminated ≡ is_mode (after_runaway f l t).mode Terminated
  unfolding row_of on_of
  wind_ends = same→eq _ _ (wind_by f l t (λ b c m n. beq (is_mode n Terminated) (is_mode m Terminated)) tt)

  milestone_ends : is_mode (reached f l t).mode Terminated ≡ is_mode (after_wind f l t).mode Terminated
  unfolding row_of on_of
  milestone_ends = same→eq _ _ (milestone_by f l t (λ a b c d e m n. beq (is_mode n Terminated) (is_mode m Terminated)) tt)

  pub tick_ends :
      is_mode (tick_of f l t).flight.fsm.mode Terminated
      ≡ (is_mode f.fsm.mode Terminated
      || (is_airborne_of f.fsm.mode && tilted_of t && runaway_enough (saturating_add_of f.counts.runaway_count 1)))
  tick_ends =
      ap (λ (m : Mode). is_mode m Terminated) (tick_mode f l t)
      ∙ milestone_ends
      ∙ wind_ends
      ∙ runaway_ends
      ∙ rw (breach_ends, breach_airborne, count_is)
      (ap (λ (b : Bool). is_mode f.fsm.mode Terminated || b)
      (enough_of (is_airborne_of f.fsm.mode && tilted_of t) (saturating_add_of f.counts.runaway_count 1)))

-- no report leads to Terminated, and of the commands Terminate alone

pub report_ends :
    (f : FlightSupervisor) (failed : Bool) → is_mode (report_of f failed).fsm.mode Terminated ≡ is_mode f.fsm.mode Terminated
unfolding row_of on_of
report_ends f failed = same→eq _ _ (report_by (λ b m n. beq (is_mode n Terminated) (is_mode m Terminated)) tt f failed)

module _ (f : FlightSupervisor) (level low : Bool) where
  pub command_ends : (ev : Event) → (command_of f ev level low).fsm.mode ≡ Terminated → (f.fsm.mode ≡ Terminated) ⊎ (ev ≡ Terminate)
  command_ends ev h = only_terminate_ends f.fsm.mode ev _ (sym (command_mode f ev level low) ∙ h)

  pub command_terminates : (command_of f Terminate level low).fsm.mode ≡ Terminated
  command_terminates = command_mode f Terminate level low ∙ terminate_ends f.fsm.mode _

  pub command_terminated : (ev : Event) → f.fsm.mode ≡ Terminated → (command_of f ev level low).fsm.mode ≡ Terminated
  command_terminated ev h = command_mode f ev level low ∙ rw h (terminated_stays ev _)
