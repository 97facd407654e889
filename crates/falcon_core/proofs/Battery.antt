-- The battery of every state that calls lead to has the pack that the opening's volts give for its own cells, and compares volts alone by both.
use mathlib.Core.Path.{◌≡◌}
use lib.Dec.{lit<}
use lib.Ieee.{Float, binary32, sub, lt}
use Rattle.std.specs.Prelude.{None}
use Rattle.relay_batt.specs.declared.battery.Battery.{Battery}
use Rattle.relay_batt.specs.declared.battery.Reading.TheVariants.{Volts}
use Rattle.relay_batt.specs.Config.{pack_cells, pack_debounce_s, per_cell_of, crit_below_low, FromPack}
use Rattle.relay_batt.specs.Latch.{trip_of}
use Rattle.relay_batt.specs.Estimator.{cut_dt, cut_volts}
use Rattle.relay_batt.proofs.Cells.{opened_pack, update_pack, low_by_volts, critical_by_volts}
use Rattle.falcon_state.specs.declared.tick.Tick.{Tick}
use Rattle.falcon_state.specs.declared.flight.FlightSupervisor.{FlightSupervisor}
use Rattle.falcon_state.specs.Flight.{opened_of}
use Rattle.falcon_events.specs.Failsafe.{report_of}
use Rattle.falcon_tick.specs.Tick.{after_tick, tick_of}
use Rattle.falcon_core.specs.declared.supervisor.Supervisor.{Supervisor}
use Rattle.falcon_core.specs.Calls.{Request, opens, ticks, plans, points, unopened, command_of, refusal_of, planned_of, flight_after, after_of}

-- the estimator's configuration is what the opening's volts give for its own cells
abbrev pub OwnPack : FlightSupervisor → Type 0
OwnPack f = FromPack f.battery.est.cfg f.config.low_batt_v

-- an accepted call
pub after_pack : (s : Supervisor) (r : Request) → OwnPack s.flight → refusal_of s r ≡ None → OwnPack (after_of s r).flight
unfolding after_of flight_after opened_of tick_of after_tick report_of command_of planned_of
after_pack s (opens o) k e = opened_pack pack_cells o.low_batt_v (lit< tt)
after_pack s (ticks t) k e = update_pack s.flight.battery t.dt t.reading k
after_pack s (plans (points l)) k e = k
after_pack s r k e = k

-- the state with no opening
pub unopened_pack : OwnPack unopened.flight
unfolding unopened opened_of
unopened_pack = opened_pack pack_cells _ (lit< tt)

-- with volts alone, below compares the reading over the state's cells with the opening's volts over the same
module _ (s : Supervisor) (t : Tick) (volts : Float) (k : OwnPack s.flight) (e : t.reading ≡ Volts volts) where
  abbrev b : Battery
  b = s.flight.battery

  abbrev cell : Float
  cell = per_cell_of b.est.cfg.cells (cut_volts volts)

  abbrev limit : Float
  limit = per_cell_of b.est.cfg.cells s.flight.config.low_batt_v

  pub tick_low_by_volts : (after_of s (ticks t)).flight.battery.est.low ≡ trip_of b.est.low (cut_dt t.dt) (lt cell limit) pack_debounce_s
  unfolding after_of flight_after tick_of after_tick
  tick_low_by_volts = rw e (low_by_volts _ _ b k.made t.dt volts)

  pub tick_critical_by_volts : (after_of s (ticks t)).flight.battery.est.critical ≡ trip_of b.est.critical (cut_dt t.dt) (lt cell (sub binary32 limit crit_below_low)) pack_debounce_s
  unfolding after_of flight_after tick_of after_tick
  tick_critical_by_volts = rw e (critical_by_volts _ _ b k.made t.dt volts)
