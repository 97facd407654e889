-- The modes of document 01, "Mode and event": their numbers, which of them are airborne, and their ranks.
use Rattle.std.specs.Prelude.{Bool, true, false, ℕ, List, [], ◌∷◌, eqb, get_or, slice_get, Option}
use Rattle.relay_fsm.specs.declared.Mode.{Mode}
use Rattle.relay_fsm.specs.declared.Mode.TheVariants.{Disarmed, Armed, Takeoff, Loiter, Mission, Land, Rtl, Terminated}

-- "Modes 0..7: Disarmed, Armed, Takeoff, Loiter, Mission, Land, Rtl, Terminated."
abbrev pub mode_number : Mode → ℕ
mode_number Disarmed = 0
mode_number Armed = 1
mode_number Takeoff = 2
mode_number Loiter = 3
mode_number Mission = 4
mode_number Land = 5
mode_number Rtl = 6
mode_number Terminated = 7

-- the modes in the order of their numbers
abbrev pub modes : List Mode
modes = Disarmed ∷ Armed ∷ Takeoff ∷ Loiter ∷ Mission ∷ Land ∷ Rtl ∷ Terminated ∷ []

-- `Mode::try_from`: the mode with a number, none above 7
unfoldable pub mode_at : ℕ → Option Mode
mode_at n = slice_get modes n

-- the mode with a number, Disarmed above 7
unfoldable pub mode_or_disarmed : ℕ → Mode
mode_or_disarmed n = get_or modes n Disarmed

-- whether a mode is the one that a row of the Rust's match names
abbrev pub is_mode : Mode → Mode → Bool
is_mode m n = eqb (mode_number m) (mode_number n)

-- `Mode::is_airborne`: "Takeoff, Loiter, Mission, Rtl, Land are airborne."
abbrev pub is_airborne_of : Mode → Bool
is_airborne_of Disarmed = false
is_airborne_of Armed = false
is_airborne_of Takeoff = true
is_airborne_of Loiter = true
is_airborne_of Mission = true
is_airborne_of Land = true
is_airborne_of Rtl = true
is_airborne_of Terminated = false

-- the supervisor's `mode_rank`: "Rank: Terminated 4, Land 3, Rtl 2, others 1."
abbrev pub rank_of : Mode → ℕ
rank_of Disarmed = 1
rank_of Armed = 1
rank_of Takeoff = 1
rank_of Loiter = 1
rank_of Mission = 1
rank_of Land = 3
rank_of Rtl = 2
rank_of Terminated = 4
