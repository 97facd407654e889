-- The mode machine of document 01, "Mode and event": the rows of the match of `FlightFsm::on`, and the mode after an event.
use Rattle.std.specs.Prelude.{Bool, ◌&&◌, ◌||◌, cond, Option, Some, None, unwrap_or}
use Rattle.relay_fsm.specs.declared.Mode.{Mode}
use Rattle.relay_fsm.specs.declared.Mode.TheVariants.{Disarmed, Armed, Takeoff, Loiter, Mission, Land, Rtl, Terminated}
use Rattle.relay_fsm.specs.declared.Event.{Event}
use Rattle.relay_fsm.specs.declared.Event.TheVariants.{Arm, RequestTakeoff, RequestMission, RequestLoiter, RequestRtl, RequestLand, RequestDisarm, ReachedAltitude, ReachedHome, Touchdown, Failsafe, Terminate}
use Rattle.relay_fsm.specs.declared.Gates.{Gates}
use Rattle.relay_fsm.specs.Mode.{is_mode}
use Rattle.relay_fsm.specs.Event.{is_event}

-- a row of the match: where it applies it leads to its mode, elsewhere the rows after it decide.
abbrev row : Bool → Mode → Option Mode → Option Mode
row applies n rest = cond applies (Some n) rest

-- whether a mode and an event are the pair that a row names.
abbrev pub is_pair : Mode → Event → Mode → Event → Bool
is_pair m e n f = is_event e f && is_mode m n

-- the match of `FlightFsm::on`, row by row in its order, all but the last: `None` where none of them applies.
unfoldable pub row_of : Mode → Event → Gates → Option Mode
row_of m e g =
    row (is_pair m e Disarmed Arm && g.level && g.throttle_low && g.prearm_ok) Armed
    (row (is_pair m e Armed RequestDisarm) Disarmed
    (row (is_pair m e Land Touchdown) Disarmed
    (row (is_pair m e Armed RequestTakeoff && g.have_position) Takeoff
    (row (is_pair m e Takeoff ReachedAltitude) Loiter
    (row (is_pair m e Loiter RequestMission) Mission
    (row (is_pair m e Mission RequestLoiter) Loiter
    (row (is_pair m e Mission ReachedHome) Loiter
    (row (is_pair m e Loiter RequestLand || is_pair m e Mission RequestLand || is_pair m e Rtl RequestLand) Land
    (row (is_pair m e Loiter RequestRtl || is_pair m e Mission RequestRtl || is_pair m e Takeoff RequestRtl) Rtl
    (row (is_pair m e Rtl ReachedHome) Land
    (row (is_pair m e Takeoff Failsafe || is_pair m e Loiter Failsafe || is_pair m e Mission Failsafe) (cond g.have_position Rtl Land)
    (row (is_pair m e Rtl Failsafe) Land
    (row (is_event e Terminate) Terminated
    None)))))))))))))

-- `FlightFsm::on`: the mode after an event. "Every pair not in the match of 001 keeps the mode."
unfoldable pub on_of : Mode → Event → Gates → Mode
on_of m e g = unwrap_or (row_of m e g) m
