-- Two notions of the rules over lists of calls: a mode that is Land, Disarmed or Terminated, and a tick that "goes through Land".
use Rattle.std.specs.Prelude.{Bool, false, ◌||◌, Option, Some, None}
use Rattle.relay_fsm.specs.declared.Mode.{Mode}
use Rattle.relay_fsm.specs.declared.Mode.TheVariants.{Disarmed, Land, Terminated}
use Rattle.relay_fsm.specs.declared.Event.{Event}
use Rattle.relay_fsm.specs.Mode.{is_mode}
use Rattle.relay_fsm.specs.Fsm.{on_of}
use Rattle.falcon_state.specs.declared.mission.Legs.{Legs}
use Rattle.falcon_state.specs.declared.tick.Tick.{Tick}
use Rattle.falcon_state.specs.declared.flight.FlightSupervisor.{FlightSupervisor}
use Rattle.falcon_events.specs.Failsafe.{in_flight_of, breach_gives, runaway_gives, wind_gives}
use Rattle.falcon_events.specs.Milestone.{milestone_gives}
use Rattle.falcon_tick.specs.Tick.{dist_home, alt_agl, outside, battery, before_breach, after_breach, after_runaway, after_wind}

-- Land, Disarmed or Terminated
abbrev pub landing_or_off_of : Mode → Bool
landing_or_off_of m = is_mode m Land || is_mode m Disarmed || is_mode m Terminated

-- an event given to the mode machine in this mode, if any, led to Land
abbrev pub led_to_land : Mode → Option Event → Bool
led_to_land m None = false
led_to_land m (Some e) = is_mode (on_of m e in_flight_of) Land

-- "It goes through Land if it began in Land or an event that it gave the mode machine led to Land."
unfoldable pub through_land_of : FlightSupervisor → Legs → Tick → Bool
through_land_of f l t =
    is_mode f.fsm.mode Land
    || led_to_land (before_breach f l t).mode (breach_gives (before_breach f l t) (battery f l t) (outside f l t))
    || led_to_land (after_breach f l t).mode (runaway_gives (after_breach f l t) t)
    || led_to_land (after_runaway f l t).mode (wind_gives (after_runaway f l t) t)
    || led_to_land (after_wind f l t).mode (milestone_gives (after_wind f l t).mode f.config f.mission l.here (dist_home f l t) (alt_agl f l t) t.p)
