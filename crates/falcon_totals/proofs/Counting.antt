-- The totals are counts: those of no call are zero, and one call on each is counted once, up to the limit.
use native.Mathlib.Omega.{arith}
use mathlib.Core.Bool.{Bool, true, false}
use mathlib.Core.List.{List, [], ◌∷◌}
use mathlib.Core.Path.{◌≡◌, refl}
use Rattle.falcon_totals.specs.declared.DayTotals.{DayTotals}
use Rattle.falcon_totals.specs.Totals.{no_totals, one_more_of, counted_of, totals_numbers}
use Rattle.falcon_totals.specs.Counts.{Counted, ended_in, changes, count_of, up_to_limit, counts_of}

-- the totals whose numbers these counts are
abbrev pub totals_of : List Counted → DayTotals
totals_of l =
    record {
      disarmed = up_to_limit (count_of (ended_in 0) l);
      armed = up_to_limit (count_of (ended_in 1) l);
      takeoff = up_to_limit (count_of (ended_in 2) l);
      loiter = up_to_limit (count_of (ended_in 3) l);
      mission = up_to_limit (count_of (ended_in 4) l);
      land = up_to_limit (count_of (ended_in 5) l);
      rtl = up_to_limit (count_of (ended_in 6) l);
      terminated = up_to_limit (count_of (ended_in 7) l);
      changed = up_to_limit (count_of changes l);
    }

-- which they are
pub numbers_are : (l : List Counted) → totals_numbers (totals_of l) ≡ counts_of l
unfolding totals_numbers counts_of
numbers_are l = refl

-- U1: "Totals start at zero with the opening"
pub totals_none : no_totals ≡ totals_of []
unfolding no_totals count_of
totals_none = refl

-- one call on, a count goes on by one where the call counts, up to the limit
one_on : (f : Counted → Bool) (l : List Counted) (c : Counted) (b : Bool) → f c ≡ b → one_more_of (up_to_limit (count_of f l)) (f c) ≡ up_to_limit (count_of f (c ∷ l))
unfolding count_of
one_on f l c true e = rw e (omega arith)
one_on f l c false e = rw e

-- one accepted tick, report or command on
pub totals_next : (l : List Counted) (c : Counted) → counted_of (totals_of l) c.ticked c.began c.ended ≡ totals_of (c ∷ l)
unfolding counted_of
totals_next l c =
    let on : (f : Counted → Bool) → one_more_of (up_to_limit (count_of f l)) (f c) ≡ up_to_limit (count_of f (c ∷ l)) = λ f. one_on f l c (f c) refl in
    λ i.
    record {
      disarmed = on (ended_in 0) i;
      armed = on (ended_in 1) i;
      takeoff = on (ended_in 2) i;
      loiter = on (ended_in 3) i;
      mission = on (ended_in 4) i;
      land = on (ended_in 5) i;
      rtl = on (ended_in 6) i;
      terminated = on (ended_in 7) i;
      changed = on changes i;
    }
