-- The mode, the battery and the counts after a tick, a report and a command.
use mathlib.Core.Bool.{Bool, true}
use mathlib.Core.Path.{◌≡◌, refl}
use Rattle.std.specs.Prelude.{is_none}
use Rattle.relay_fsm.specs.declared.Event.{Event}
use Rattle.relay_fsm.specs.Fsm.{on_of}
use Rattle.relay_batt.specs.Battery.{update_of}
use Rattle.relay_preflight.specs.Verdict.{first_blocker_of}
use Rattle.falcon_state.specs.declared.mission.Legs.{Legs}
use Rattle.falcon_state.specs.declared.tick.Tick.{Tick}
use Rattle.falcon_state.specs.declared.flight.FlightSupervisor.{FlightSupervisor}
use Rattle.falcon_events.specs.Failsafe.{breached_of, runaway_counted, runaway_of, wind_counted, wind_of, report_of}
use Rattle.falcon_tick.specs.Tick.{before_breach, after_breach, after_runaway, after_wind, reached, after_tick, tick_of}
use Rattle.falcon_core.specs.Calls.{command_of}

module _ (f : FlightSupervisor) (l : Legs) (t : Tick) where
  pub breach_counts : (after_breach f l t).counts ≡ f.counts
  unfolding after_breach breached_of before_breach
  breach_counts = refl

  pub tick_mode : (tick_of f l t).flight.fsm.mode ≡ (reached f l t).mode
  unfolding tick_of after_tick
  tick_mode = refl

  pub tick_battery : (tick_of f l t).flight.battery ≡ update_of f.battery t.dt t.reading
  unfolding tick_of after_tick
  tick_battery = refl

  pub tick_counts :
      (tick_of f l t).flight.counts
      ≡ record { runaway_count = runaway_counted (after_breach f l t) t; wind_count = wind_counted (after_runaway f l t) t }
  unfolding tick_of after_tick after_wind wind_of after_runaway runaway_of
  tick_counts = refl

module _ (f : FlightSupervisor) (failed : Bool) where
  pub report_battery : (report_of f failed).battery ≡ f.battery
  unfolding report_of
  report_battery = refl

  pub report_counts : (report_of f failed).counts ≡ f.counts
  unfolding report_of
  report_counts = refl

module _ (f : FlightSupervisor) (ev : Event) (level low : Bool) where
  pub command_mode :
      (command_of f ev level low).fsm.mode
      ≡ on_of f.fsm.mode ev
      (record { level = level; throttle_low = low; have_position = true; prearm_ok = is_none (first_blocker_of f.check_table) })
  unfolding command_of
  command_mode = refl

  pub command_battery : (command_of f ev level low).battery ≡ f.battery
  unfolding command_of
  command_battery = refl

  pub command_counts : (command_of f ev level low).counts ≡ f.counts
  unfolding command_of
  command_counts = refl
