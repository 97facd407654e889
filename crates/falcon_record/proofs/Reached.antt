-- The wind count is below 2^32 with no opening and after every accepted call, and each day total is.
use Prim.Native.Nat.{ℕ, ◌<◌, ◌^◌}
use native.Mathlib.Omega.{arith}
use mathlib.Core.List.{List}
use mathlib.Core.Path.{◌≡◌}
use lib.Dec.{lit<}
use Rattle.std.specs.Prelude.{None}
use Rattle.std.proofs.lemmas.Bool.{cond_both}
use Rattle.columns.specs.Line.{InRange}
use Rattle.falcon_state.specs.declared.tick.Tick.{Tick}
use Rattle.falcon_state.specs.Flight.{opened_of}
use Rattle.falcon_events.specs.declared.failsafe.FailsafeState.{FailsafeState}
use Rattle.falcon_events.specs.Failsafe.{gusty_of, windy_of, wind_counted}
use Rattle.falcon_tick.specs.Tick.{after_runaway}
use Rattle.falcon_totals.specs.Totals.{totals_numbers}
use Rattle.falcon_totals.specs.Counts.{Counted, up_to_limit}
use Rattle.falcon_totals.proofs.Counting.{totals_of}
use Rattle.falcon_core.specs.declared.supervisor.Supervisor.{Supervisor}
use Rattle.falcon_core.specs.Calls.{unopened, Request, opens, ticks, reports, commands, plans, refusal_of, legs_in, flight_after, after_of}
use Rattle.falcon_core.proofs.Stages.{tick_counts, report_counts, command_counts}
use Rattle.falcon_core.proofs.Parts.{planned_counts}

-- ---- the wind count

wind_counted_below : (s : FailsafeState) (t : Tick) → wind_counted s t < 2 ^ 32
unfolding wind_counted
wind_counted_below s t = cond_both (windy_of s.mode (gusty_of t)) _ 0 (λ n. n < 2 ^ 32) (λ e. omega arith) (λ e. lit< tt)

-- an accepted call
pub after_wind_below : (s : Supervisor) (r : Request) → s.flight.counts.wind_count < 2 ^ 32 → refusal_of s r ≡ None → (after_of s r).flight.counts.wind_count < 2 ^ 32
unfolding after_of flight_after opened_of
after_wind_below s (opens o) k e = lit< tt
after_wind_below s (ticks t) k e = rw (tick_counts s.flight (legs_in s) t) (wind_counted_below (after_runaway s.flight (legs_in s) t) t)
after_wind_below s (reports failed) k e = rw (report_counts s.flight failed) k
after_wind_below s (commands ev level low) k e = rw (command_counts s.flight ev level low) k
after_wind_below s (plans p) k e = rw (planned_counts s.flight p) k

-- the state with no opening
pub unopened_wind_below : unopened.flight.counts.wind_count < 2 ^ 32
unfolding unopened opened_of
unopened_wind_below = lit< tt

-- ---- the totals

limit_below : (n : ℕ) → up_to_limit n < 2 ^ 32
limit_below n = omega arith

-- those of any accepted calls
pub totals_below : (l : List Counted) → InRange (totals_numbers (totals_of l))
unfolding totals_numbers
totals_below l = search limit_below depth 16
