-- The day totals of U1: what is counted of an accepted tick, report or command.
use Rattle.std.specs.Prelude.{ℕ, Bool, cond, not, ◌&&◌, List, [], ◌∷◌}
use Rattle.relay_math.specs.Small.{saturating_add_of}
use Rattle.relay_fsm.specs.declared.Mode.{Mode}
use Rattle.relay_fsm.specs.declared.Mode.TheVariants.{Disarmed, Armed, Takeoff, Loiter, Mission, Land, Rtl, Terminated}
use Rattle.relay_fsm.specs.Mode.{is_mode}
use Rattle.falcon_totals.specs.declared.DayTotals.{DayTotals}

-- U1: "Totals start at zero with the opening"
unfoldable pub no_totals : DayTotals
no_totals = record { disarmed = 0; armed = 0; takeoff = 0; loiter = 0; mission = 0; land = 0; rtl = 0; terminated = 0; changed = 0 }

-- one more where it counts. U1: totals "stay at 4294967295 once there"
abbrev pub one_more_of : ℕ → Bool → ℕ
one_more_of n more = cond more (saturating_add_of n 1) n

-- U1: "the number of accepted ticks that ended in each of the eight modes, and the number of ticks, reports and commands that ended in another mode than they
-- began in"
unfoldable pub counted_of : DayTotals → Bool → Mode → Mode → DayTotals
counted_of t ticked began ended =
    record {
      disarmed = one_more_of t.disarmed (ticked && is_mode ended Disarmed);
      armed = one_more_of t.armed (ticked && is_mode ended Armed);
      takeoff = one_more_of t.takeoff (ticked && is_mode ended Takeoff);
      loiter = one_more_of t.loiter (ticked && is_mode ended Loiter);
      mission = one_more_of t.mission (ticked && is_mode ended Mission);
      land = one_more_of t.land (ticked && is_mode ended Land);
      rtl = one_more_of t.rtl (ticked && is_mode ended Rtl);
      terminated = one_more_of t.terminated (ticked && is_mode ended Terminated);
      changed = one_more_of t.changed (not (is_mode began ended));
    }

-- U1: "the nine totals", as an answer line has them
abbrev pub totals_count : ℕ
totals_count = 9

unfoldable pub totals_numbers : DayTotals → List ℕ
totals_numbers t = t.disarmed ∷ t.armed ∷ t.takeoff ∷ t.loiter ∷ t.mission ∷ t.land ∷ t.rtl ∷ t.terminated ∷ t.changed ∷ []
