-- At every place of every list of calls the place agrees with the state there: the mode, the configuration, the battery, the tilt count and the totals.
use Prim.Native.Nat.{ℕ, suc, ◌+◌, ◌≤◌}
use native.Mathlib.Omega.{arith}
use native.Mathlib.Decide.{dec_le}
use mathlib.Core.Bool.{Bool, true, false, cond, not, ◌&&◌, or-true}
use mathlib.Core.List.{List, [], ◌∷◌}
use mathlib.Core.Logic.{◌⊎◌, inl, inr, ⊎_elim}
use mathlib.Core.Path.{◌≡◌, refl, sym, ap, ◌∙◌, subst}
use lib.Dec.{T, leb}
use borrow.Author.Tests.{le-leb}
use Rattle.std.specs.Prelude.{Option, Some, None}
use Rattle.relay_math.specs.Small.{f32_zero, saturating_add_of}
use Rattle.relay_fsm.specs.declared.Mode.{Mode}
use Rattle.relay_fsm.specs.declared.Mode.TheVariants.{Terminated}
use Rattle.relay_fsm.specs.Mode.{is_mode, is_airborne_of}
use Rattle.relay_fsm.proofs.Finite.{is_mode→eq}
use Rattle.relay_batt.specs.declared.battery.Battery.{Battery}
use Rattle.relay_batt.specs.Battery.{update_of}
use Rattle.relay_batt.specs.Config.{for_opening_volts_of}
use Rattle.relay_batt.proofs.Sound.{sound_new}
use Rattle.relay_batt.proofs.Stays.{critical_shown}
use Rattle.falcon_state.specs.declared.tick.Tick.{Tick}
use Rattle.falcon_state.specs.declared.flight.Counts.{Counts}
use Rattle.falcon_core.specs.declared.supervisor.Supervisor.{Supervisor}
use Rattle.falcon_state.specs.declared.flight.FlightSupervisor.{FlightSupervisor}
use Rattle.falcon_core.specs.declared.supervisor.Answered.{Answered}
use Rattle.falcon_core.specs.declared.answer.Output.{Output}
use Rattle.falcon_core.specs.declared.refusal.Refusal.{Refusal}
use Rattle.falcon_state.specs.Flight.{opened_of}
use Rattle.falcon_events.specs.Failsafe.{tilted_of, runaway_enough, report_of}
use Rattle.falcon_tick.specs.Tick.{tick_of}
use Rattle.falcon_core.specs.Calls.{unopened, Request, opens, ticks, reports, commands, plans, refusal_of, legs_in, flight_after, totals_after, after_of, output_of, refused_of, accepted_of}
use Rattle.falcon_core.specs.Answer.{answer_of}
use Rattle.falcon_core.proofs.Parts.{planned_mode, planned_battery, planned_counts, after_config}
use Rattle.falcon_core.proofs.Stages.{tick_battery, report_battery, report_counts, command_battery, command_counts}
use Rattle.falcon_core.proofs.Runaway.{tick_runaway_count, tick_ends, report_ends, command_terminated}
use Rattle.falcon_totals.specs.declared.DayTotals.{DayTotals}
use Rattle.falcon_totals.specs.Totals.{counted_of}
use Rattle.falcon_totals.specs.Counts.{Counted}
use Rattle.falcon_totals.proofs.Counting.{totals_of, totals_none, totals_next}
use Rattle.call_lists.specs.Lists.{Call, Began, Place, next_mode, next_battery, place_after, next_place_of, place_from, first_place}
use Rattle.call_lists.specs.Demand3.{tumbling_ticks, tumbling}
use Rattle.call_lists.proofs.CallSeen.{Seen, refused, accepts, seen}

-- how many of the latest ticks in a row began airborne and tilted
unfoldable pub run : List Began → ℕ
run [] = 0
run (b ∷ l) = cond (tumbling b) (suc (run l)) 0

-- what holds at a place
pub record Holding (p : Place) : Type 0 where
  pub mode_is : p.mode ≡ p.supervisor.flight.fsm.mode
  pub config_is : p.config ≡ cond p.supervisor.opened (Some p.supervisor.flight.config) None
  pub battery_is : p.battery ≡ cond p.supervisor.opened (Some p.supervisor.flight.battery) None
  pub shown_is : p.supervisor.flight.battery.state.critical ≡ p.supervisor.flight.battery.est.critical.latched
  pub count_is : p.supervisor.flight.counts.runaway_count ≡ run p.began
  pub capped : (run p.began + 1 ≤ tumbling_ticks) ⊎ ((run p.began ≡ tumbling_ticks) × (p.supervisor.flight.fsm.mode ≡ Terminated))
  pub totals_are : p.supervisor.totals ≡ totals_of p.counted

-- ---- a refused call

pub refused_mode : (s : Supervisor) (m : Mode) (e : Refusal) → next_mode m (refused_of s e) ≡ m
unfolding refused_of answer_of
refused_mode s m e = refl

after_refused : (p : Place) (e : Refusal) → Holding p → Holding (place_after p (refused_of p.supervisor e) None)
unfolding place_after refused_of
after_refused p e i =
    record {
      mode_is = refused_mode p.supervisor p.mode e ∙ i.mode_is;
      config_is = i.config_is;
      battery_is = i.battery_is;
      shown_is = i.shown_is;
      count_is = i.count_is;
      capped = i.capped;
      totals_are = i.totals_are;
    }

-- ---- an accepted call: the flight after it, and what it leaves as it is

-- the mode answered is the state's
pub accepted_mode : (s : Supervisor) (m : Mode) (out : Output) → next_mode m (accepted_of s out) ≡ s.flight.fsm.mode
unfolding accepted_of answer_of
accepted_mode s m out = refl

-- an accepted tick, report or command is counted
counted_on :
    (p : Place) (ticked : Bool) (n : Mode)
    → Holding p
    → counted_of p.supervisor.totals ticked p.supervisor.flight.fsm.mode n ≡ totals_of (record { ticked = ticked; began = p.mode; ended = n } ∷ p.counted)
counted_on p ticked n i =
    ap (λ (t : DayTotals). counted_of t ticked p.supervisor.flight.fsm.mode n) i.totals_are
    ∙ ap (λ (m : Mode). counted_of (totals_of p.counted) ticked m n) (sym i.mode_is)
    ∙ totals_next p.counted (record { ticked = ticked; began = p.mode; ended = n })

-- a call that keeps the configuration, the battery, the counts and a Terminated mode
kept :
    (p : Place) (s : Supervisor) (l : List Counted)
    → Holding p
    → s.opened ≡ p.supervisor.opened
    → s.flight.config ≡ p.supervisor.flight.config
    → s.flight.battery ≡ p.supervisor.flight.battery
    → s.flight.counts ≡ p.supervisor.flight.counts
    → (p.supervisor.flight.fsm.mode ≡ Terminated → s.flight.fsm.mode ≡ Terminated)
    → s.totals ≡ totals_of l
    → Holding (record { supervisor = s; mode = s.flight.fsm.mode; config = p.config; battery = p.battery; began = p.began; counted = l })
kept p s l i o g e c k t =
    record {
      mode_is = refl;
      config_is = rw (o, g) i.config_is;
      battery_is = rw (o, e) i.battery_is;
      shown_is = rw e i.shown_is;
      count_is = ap (λ (n : Counts). n.runaway_count) c ∙ i.count_is;
      capped = ⊎_elim inl (λ u. inr (u.0, k u.1)) i.capped;
      totals_are = t;
    }

-- ---- a tick

-- Terminated is not airborne
pub no_air : (m : Mode) (b : Bool) → m ≡ Terminated → (is_airborne_of m && b) ≡ true → ⊥
no_air m b e h = subst (λ (x : Bool). T (not x)) (sym (ap (λ (x : Mode). is_airborne_of x && b) e) ∙ h) tt

report_terminated : (f : FlightSupervisor) (failed : Bool) → f.fsm.mode ≡ Terminated → (report_of f failed).fsm.mode ≡ Terminated
report_terminated f failed e =
    is_mode→eq (report_of f failed).fsm.mode Terminated
    (subst T (sym (report_ends f failed ∙ ap (λ (x : Mode). is_mode x Terminated) e)) tt)

ticked_opened : (b : Option Battery) (x y : Battery) (t : Tick) (o : Bool) → y ≡ update_of x t.dt t.reading → b ≡ cond o (Some x) None → next_battery b (Some (ticks t)) ≡ cond o (Some y) None
ticked_opened b x y t true e h = rw (h, e)
ticked_opened b x y t false e h = rw h

-- the supervisor's count is enough at demand 3's number
pub enough_is : (n : ℕ) → runaway_enough n ≡ leb tumbling_ticks n
unfolding runaway_enough
enough_is n = refl

module _ (p : Place) (t : Tick) (i : Holding p) where
  abbrev flight : FlightSupervisor
  flight = p.supervisor.flight

  -- the flight after the tick
  abbrev pub ticked_flight : FlightSupervisor
  ticked_flight = (tick_of flight (legs_in p.supervisor) t).flight

  abbrev pub began_now : Began
  began_now = record { mode = p.mode; tick = t }

  -- airborne and tilted
  abbrev pub air : Bool
  air = is_airborne_of flight.fsm.mode && tilted_of t

  -- the tick began airborne and tilted
  tumbling_is : tumbling began_now ≡ air
  unfolding tumbling tilted_of
  tumbling_is = ap (λ (x : Mode). is_airborne_of x && tilted_of t) i.mode_is

  -- the count one tick on
  pub run_now : run (began_now ∷ p.began) ≡ cond air (suc (run p.began)) 0
  unfolding run
  run_now = rw tumbling_is

  run_small : run p.began ≤ tumbling_ticks
  run_small = ⊎_elim (λ u. omega arith) (λ u. omega (arith, u.0)) i.capped

  pub one_more : saturating_add_of flight.counts.runaway_count 1 ≡ suc (run p.began)
  one_more = let e = i.count_is in let h = run_small in omega (arith, e, h)

  tick_run : ticked_flight.counts.runaway_count ≡ run (began_now ∷ p.began)
  tick_run = tick_runaway_count flight (legs_in p.supervisor) t ∙ ap (λ (n : ℕ). cond air n 0) one_more ∙ sym run_now

  -- the tick on which the count is enough
  pub tick_terminates : air ≡ true → tumbling_ticks ≤ suc (run p.began) → ticked_flight.fsm.mode ≡ Terminated
  tick_terminates g h =
      let a : Mode = ticked_flight.fsm.mode in
      let q : leb tumbling_ticks (suc (run p.began)) ≡ true = le-leb tumbling_ticks (suc (run p.began)) h in
      let e : is_mode a Terminated ≡ true = tick_ends flight (legs_in p.supervisor) t ∙ rw (one_more, enough_is (suc (run p.began)), q, g) (or-true (is_mode flight.fsm.mode Terminated)) in
      is_mode→eq a Terminated (subst T (sym e) tt)

  tick_capped :
      (g : Bool)
      → air ≡ g
      → (run (began_now ∷ p.began) + 1 ≤ tumbling_ticks)
      ⊎ ((run (began_now ∷ p.began) ≡ tumbling_ticks) × (ticked_flight.fsm.mode ≡ Terminated))
  tick_capped false e = inl (let r : run (began_now ∷ p.began) ≡ 0 = run_now ∙ rw e in omega (arith, r))
  tick_capped true e =
      let r : run (began_now ∷ p.began) ≡ suc (run p.began) = run_now ∙ rw e in
      ⊎_elim
      (λ u.
      elim (dec_le (run p.began + 2) tumbling_ticks) [
        | yes q ↦ inl (omega (arith, r, q))
        | no q ↦ inr (omega (arith, r, u, q), tick_terminates e (omega (arith, q)))
      ])
      (λ u. absurd (no_air flight.fsm.mode (tilted_of t) u.1 e))
      i.capped

  after_tick : Holding (place_after p (accepted_of (after_of p.supervisor (ticks t)) (output_of flight (legs_in p.supervisor) (ticks t))) (Some (ticks t)))
  unfolding place_after accepted_of answer_of after_of flight_after totals_after
  after_tick =
      record {
        mode_is = refl;
        config_is = rw (after_config p.supervisor (ticks t) refl) i.config_is;
        battery_is =
            ticked_opened p.battery flight.battery ticked_flight.battery t p.supervisor.opened (tick_battery flight (legs_in p.supervisor) t) i.battery_is;
        shown_is = rw (tick_battery flight (legs_in p.supervisor) t) (critical_shown flight.battery t.dt t.reading i.shown_is);
        count_is = tick_run;
        capped = tick_capped air refl;
        totals_are = counted_on p true ticked_flight.fsm.mode i;
      }

-- ---- every call

-- an accepted call
after_accepted :
    (p : Place) (r : Request)
    → refusal_of p.supervisor r ≡ None
    → Holding p
    → Holding (place_after p (accepted_of (after_of p.supervisor r) (output_of p.supervisor.flight (legs_in p.supervisor) r)) (Some r))
unfolding place_after accepted_of answer_of after_of flight_after totals_after opened_of run
after_accepted p (opens o) e i =
    record {
      mode_is = refl;
      config_is = refl;
      battery_is = refl;
      shown_is = (sound_new (for_opening_volts_of o.low_batt_v)).critical_shown;
      count_is = refl;
      capped = inl (omega arith);
      totals_are = totals_none;
    }
after_accepted p (ticks t) e i = after_tick p t i
after_accepted p (reports failed) e i =
    kept p _ _ i refl (after_config p.supervisor (reports failed) refl) (report_battery p.supervisor.flight failed) (report_counts p.supervisor.flight failed)
    (report_terminated p.supervisor.flight failed)
    (counted_on p false _ i)
after_accepted p (commands ev level low) e i =
    kept p _ _ i refl (after_config p.supervisor (commands ev level low) refl) (command_battery p.supervisor.flight ev level low)
    (command_counts p.supervisor.flight ev level low)
    (command_terminated p.supervisor.flight level low ev)
    (counted_on p false _ i)
after_accepted p (plans x) e i =
    kept p _ _ i refl (after_config p.supervisor (plans x) refl) (planned_battery p.supervisor.flight x) (planned_counts p.supervisor.flight x)
    (λ m. planned_mode p.supervisor.flight x ∙ m)
    i.totals_are

after_seen : (p : Place) (a : Answered) (k : Option Request) → Seen p.supervisor a k → Holding p → Holding (place_after p a k)
after_seen p _ _ (refused n) i = after_refused p n i
after_seen p _ _ (accepts r e) i = after_accepted p r e i

pub next_holding : (p : Place) (c : Call) → Holding p → Holding (next_place_of p c)
unfolding next_place_of
next_holding p c i = after_seen p _ _ (seen p.supervisor c) i

pub place_holding : (p : Place) (l : List Call) → Holding p → Holding (place_from p l)
unfolding place_from
place_holding p [] i = i
place_holding p (c ∷ l) i = place_holding (next_place_of p c) l (next_holding p c i)

pub start_holding : Holding first_place
unfolding first_place unopened opened_of run
start_holding =
    record {
      mode_is = refl;
      config_is = refl;
      battery_is = refl;
      shown_is = (sound_new (for_opening_volts_of f32_zero)).critical_shown;
      count_is = refl;
      capped = inl (omega arith);
      totals_are = totals_none;
    }
