-- A tick is given two waypoints and answers as one over the whole list: where the leg moves on, the next leg's waypoint is the active one's.
use Prim.Native.Nat.{◌+◌}
use native.Mathlib.Omega.{arith}
use Rattle.std.proofs.lemmas.Bool.Decides.{nat_tests}
use mathlib.Core.Bool.{Bool, cond, ◌&&◌}
use mathlib.Core.List.{List}
use mathlib.Core.Path.{◌≡◌, ap}
use Rattle.std.specs.Prelude.{eqb, ltb, not}
use Rattle.relay_fsm.specs.declared.Mode.TheVariants.{Mission as InMission}
use Rattle.relay_fsm.specs.Mode.{is_mode}
use Rattle.falcon_state.specs.declared.point.Point.{Point}
use Rattle.falcon_state.specs.declared.config.Config.{Config}
use Rattle.falcon_state.specs.declared.mission.Mission.{Mission}
use Rattle.falcon_state.specs.declared.mission.Legs.{Legs}
use Rattle.falcon_state.specs.declared.tick.Tick.{Tick}
use Rattle.falcon_state.specs.declared.flight.FlightSupervisor.{FlightSupervisor}
use Rattle.falcon_guidance.specs.Mission.{leg_waypoint_of, current_waypoint_of, legs_of}
use Rattle.falcon_guidance.specs.Setpoint.{setpoint_of, motors_off_of}
use Rattle.falcon_guidance.specs.Zones.{avoid_of}
use Rattle.falcon_events.specs.Milestone.{arrived_of, more_of, milestone_of}
use Rattle.falcon_tick.specs.declared.tick.TickAnswer.{TickAnswer}
use Rattle.falcon_tick.specs.declared.tick.TickAnswer.TheVariants.{MotorsOff, Setpoint}
use Rattle.falcon_tick.specs.Tick.{after_wind, reached, landing, waypoint, after_tick, answered, tick_of}

module _ (c : Config) (ps : List Point) where
  moved :
      (m : Mission) (on : Bool) →
      let i = cond on (m.wp_index + 1) m.wp_index in
      cond (eqb m.wp_index i) (legs_of c ps m).here (legs_of c ps m).next ≡ leg_waypoint_of c ps m.wp_count i
  unfolding legs_of current_waypoint_of
  moved m on = grind (arith, nat_tests)

  module _ (f : FlightSupervisor) (t : Tick) where
    abbrev legs : Legs
    legs = legs_of c ps f.mission

    -- the flight after the tick
    abbrev after : FlightSupervisor
    after = after_tick f legs t

    -- the waypoint that the setpoint is made of is the active leg's of the whole list, after the tick
    pub milestone_waypoint : waypoint f legs t ≡ current_waypoint_of c ps after.mission
    unfolding current_waypoint_of after_tick reached milestone_of
    milestone_waypoint = moved f.mission (is_mode (after_wind f legs t).mode InMission && arrived_of legs.here t.p && more_of f.mission)

    -- the answer of a flying tick that makes its setpoint of this waypoint
    abbrev answer_to : Point → TickAnswer
    answer_to to =
        let sp = setpoint_of after.fsm.mode f.config to after.hold.hold_xy t in
        let descends = landing f legs t in
        Setpoint (cond (ltb 0 f.zones.zone_count && not descends) (avoid_of f.zones t.p sp) sp) descends f.motors_were_off

    -- so the answer flies to the active leg's waypoint after the tick
    pub tick_over_list :
        tick_of f legs t
        ≡ record {
          flight = after;
          answer = cond (motors_off_of after.fsm.mode) MotorsOff (answer_to (current_waypoint_of c ps after.mission));
        }
    unfolding tick_of answered after_tick
    tick_over_list = ap (λ (p : Point). record { flight = after; answer = cond (motors_off_of after.fsm.mode) MotorsOff (answer_to p) }) milestone_waypoint
