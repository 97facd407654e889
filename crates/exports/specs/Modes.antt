-- The mode machine by the numbers of modes and events.
use Rattle.std.specs.Prelude.{ℕ, Option, Some, None}
use Rattle.std.specs.Option.{option_map_or}
use Rattle.relay_fsm.specs.declared.Mode.{Mode}
use Rattle.relay_fsm.specs.declared.Event.{Event}
use Rattle.relay_fsm.specs.declared.Gates.{Gates}
use Rattle.relay_fsm.specs.Mode.{mode_number, mode_at, is_airborne_of, rank_of}
use Rattle.relay_fsm.specs.Event.{event_at}
use Rattle.relay_fsm.specs.Fsm.{on_of}
use Rattle.relay_math.specs.Small.{flag_number}
use Rattle.exports.specs.Numbers.{unknown, bit}

-- the gates by the four lowest bits, in the order of the Rust's fields
unfoldable pub gates_from_of : ℕ → Gates
gates_from_of n = record { level = bit n 1; throttle_low = bit n 2; have_position = bit n 4; prearm_ok = bit n 8 }

-- the number of the mode after an event, or `unknown` where there is no such mode or event
abbrev pub on_found_of : Option Mode → Option Event → Gates → ℕ
on_found_of (Some m) (Some e) g = mode_number (on_of m e g)
on_found_of (Some m) None g = unknown
on_found_of None e g = unknown

-- `FlightFsm::on` by numbers
unfoldable pub on_number : ℕ → ℕ → ℕ → ℕ
on_number m e g = on_found_of (mode_at m) (event_at e) (gates_from_of g)

-- the supervisor's `mode_rank` by numbers
unfoldable pub rank_number : ℕ → ℕ
rank_number m = option_map_or rank_of (mode_at m) unknown

-- `Mode::is_airborne` by numbers
unfoldable pub airborne_number : ℕ → ℕ
airborne_number m = option_map_or (λ m. flag_number (is_airborne_of m)) (mode_at m) unknown
