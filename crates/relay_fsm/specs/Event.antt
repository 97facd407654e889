-- The events of document 01, "Mode and event": their numbers, both ways.
use Rattle.std.specs.Prelude.{Bool, ℕ, List, [], ◌∷◌, eqb, slice_get, Option}
use Rattle.relay_fsm.specs.declared.Event.{Event}
use Rattle.relay_fsm.specs.declared.Event.TheVariants.{Arm, RequestTakeoff, RequestMission, RequestLoiter, RequestRtl, RequestLand, RequestDisarm, ReachedAltitude, ReachedHome, Touchdown, Failsafe, Terminate}

-- "Events 0..11: Arm, RequestTakeoff, RequestMission, RequestLoiter, RequestRtl, RequestLand, RequestDisarm, ReachedAltitude, ReachedHome, Touchdown, Failsafe, Terminate."
abbrev pub event_number : Event → ℕ
event_number Arm = 0
event_number RequestTakeoff = 1
event_number RequestMission = 2
event_number RequestLoiter = 3
event_number RequestRtl = 4
event_number RequestLand = 5
event_number RequestDisarm = 6
event_number ReachedAltitude = 7
event_number ReachedHome = 8
event_number Touchdown = 9
event_number Failsafe = 10
event_number Terminate = 11

-- whether an event is the one that a row of the Rust's match names.
abbrev pub is_event : Event → Event → Bool
is_event e f = eqb (event_number e) (event_number f)

-- the events in the order of their numbers.
abbrev pub all_events : List Event
all_events =
    Arm
    ∷ RequestTakeoff
    ∷ RequestMission
    ∷ RequestLoiter
    ∷ RequestRtl
    ∷ RequestLand
    ∷ RequestDisarm
    ∷ ReachedAltitude
    ∷ ReachedHome
    ∷ Touchdown
    ∷ Failsafe
    ∷ Terminate
    ∷ []

-- `Event::try_from`: the event with a number, none above 11.
unfoldable pub event_at : ℕ → Option Event
event_at n = slice_get all_events n
