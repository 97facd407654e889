-- Demand 3 holds of every list of calls: the rank rule, the fifty-tick rule and the two-tick rule at a place, and then at every place of a list.
use Prim.Native.Nat.{ℕ, zero, suc, ◌+◌, ◌≤◌}
use native.Mathlib.Nat.{le_refl, zero-add}
use native.Mathlib.Omega.{arith}
use mathlib.Core.Bool.{Bool, true, false, cond, ◌&&◌}
use mathlib.Core.List.{List, [], ◌∷◌}
use mathlib.Core.Logic.{◌⊎◌, inl, inr, ⊎_elim, ◌↔◌, ◌≢◌}
use mathlib.Core.Path.{◌≡◌, refl, sym, ◌∙◌, subst}
use lib.Dec.{T, leb, leb→le}
use lib.Ieee.{Float}
use lib.Ieee.Fits.{and_l, and_r}
use Rattle.std.specs.Prelude.{Option, Some, None}
use Rattle.relay_fsm.specs.declared.Mode.{Mode}
use Rattle.relay_fsm.specs.declared.Mode.TheVariants.{Terminated}
use Rattle.relay_fsm.specs.Mode.{is_mode, rank_of}
use Rattle.relay_fsm.proofs.Finite.{is_mode→eq, eq→is_mode}
use denote.Floats.{is_true}
use Rattle.relay_batt.specs.declared.battery.Battery.{Battery}
use Rattle.relay_batt.proofs.Stays.{critical_stays, critical_shown}
use Rattle.falcon_state.specs.declared.config.Config.{Config}
use Rattle.falcon_state.specs.declared.tick.Tick.{Tick}
use Rattle.falcon_state.specs.declared.config.OpeningKind.{OpeningKind}
use Rattle.falcon_state.specs.declared.config.OpeningKind.TheVariants.{Ground, Raised}
use Rattle.falcon_guidance.specs.Geometry.{pad_less_of, height_of}
use Rattle.falcon_core.specs.declared.supervisor.Supervisor.{Supervisor}
use Rattle.falcon_core.specs.declared.supervisor.Answered.{Answered}
use Rattle.falcon_events.specs.Failsafe.{tilted_of, runaway_enough}
use Rattle.falcon_events.specs.Milestone.{near_ground_of}
use Rattle.falcon_core.specs.Land.{landing_or_off_of}
use Rattle.falcon_core.specs.Calls.{Request, opens, ticks, reports, commands, plans, refusal_of, legs_in, flight_after, after_of, output_of}
use Rattle.falcon_core.proofs.Answers.{in_sequence}
use Rattle.falcon_core.proofs.Refused.{accepted_passed}
use Rattle.falcon_core.proofs.Parts.{planned_mode}
use Rattle.falcon_core.proofs.Rank.{tick_rank, report_rank}
use Rattle.falcon_core.proofs.Phase.{phase_of, airborne_phase, tick_phase, report_keeps_phase}
use Rattle.falcon_core.proofs.Runaway.{tick_ends}
use Rattle.call_lists.specs.Lists.{Call, Began, Place, accepted_request, next_mode, next_battery, next_began, place_after, next_place_of, place_from, place_at_of, first_place, latch_of, calm, calm_from, tick_count, ticks_from}
use Rattle.call_lists.specs.Demand3.{landing_ticks, tumbling_ticks, own_height, below_touchdown_height, tumbling, tumbling_for, TwoTicks, TouchdownTick, RankKept, FiftyTicks, Demand3}
use Rattle.call_lists.proofs.CallSeen.{Seen, refused, accepts, seen}
use Rattle.call_lists.proofs.PlaceHolds.{run, Holding, refused_mode, accepted_mode, ticked_flight, began_now, air, one_more, run_now, enough_is, tick_terminates, no_air, next_holding, place_holding, start_holding}

-- ---- the rank rule

-- the supervisor's height is the one that the opening measures
own_is : (kind : OpeningKind) (home_z z : Float) → pad_less_of kind home_z z ≡ own_height kind home_z z
unfolding pad_less_of own_height
own_is Ground home_z z = refl
own_is Raised home_z z = refl

-- height under 0.15 m, as the tick tests it
ground_is : (c : Config) (t : Tick) → near_ground_of (height_of c t.p) ≡ below_touchdown_height (Some c) t
unfolding near_ground_of height_of below_touchdown_height
ground_is c t = rw (own_is c.opening_kind c.home.z t.p.z) refl

-- an accepted tick finds the configuration of the latest accepted opening
opening_is : (p : Place) (t : Tick) → Holding p → refusal_of p.supervisor (ticks t) ≡ None → p.config ≡ Some p.supervisor.flight.config
opening_is p t i q =
    let s = p.supervisor in
    i.config_is ∙ rw (in_sequence s.opened s.report_due (accepted_passed s (ticks t) q).in_sequence).0 refl

rank_accepted :
    (p : Place) (r : Request)
    → Holding p
    → refusal_of p.supervisor r ≡ None
    → T (calm (Some r))
    → let s = p.supervisor in
    (rank_of s.flight.fsm.mode ≤ rank_of (after_of s r).flight.fsm.mode) ⊎ TouchdownTick p.config s (Some r) (after_of s r).flight.fsm.mode
unfolding after_of flight_after
rank_accepted p (opens o) i q h = absurd h
rank_accepted p (ticks t) i q h =
    let s = p.supervisor in
    let low : T (near_ground_of (height_of s.flight.config t.p)) → T (below_touchdown_height p.config t) = λ u. rw (opening_is p t i q) (subst T (ground_is s.flight.config t) u) in
    ⊎_elim inl
    (λ u. inr (record { tick = t; is_tick = refl; low = low u.0; disarmed = u.1; through_land = u.2 }))
    (tick_rank s.flight (legs_in s) t)
rank_accepted p (reports failed) i q h = inl (report_rank p.supervisor.flight failed)
rank_accepted p (commands ev level low) i q h = absurd h
rank_accepted p (plans x) i q h = inl (rw (planned_mode p.supervisor.flight x) (le_refl (rank_of p.supervisor.flight.fsm.mode)))

rank_seen :
    (p : Place) (a : Answered) (k : Option Request)
    → Seen p.supervisor a k
    → Holding p
    → T (calm k)
    → (rank_of p.mode ≤ rank_of (next_mode p.mode a)) ⊎ TouchdownTick p.config p.supervisor k (next_mode p.mode a)
rank_seen p _ _ (refused n) i h = inl (rw (refused_mode p.supervisor p.mode n) (le_refl (rank_of p.mode)))
rank_seen p _ _ (accepts r q) i h =
    let s = p.supervisor in
    rw (accepted_mode (after_of s r) p.mode (output_of s.flight (legs_in s) r), i.mode_is) (rank_accepted p r i q h)

pub rank_rule : (p : Place) (c : Call) → Holding p → RankKept p c
unfolding next_place_of place_after
rank_rule p c i h = rank_seen p _ _ (seen p.supervisor c) i h

-- ---- the fifty-tick rule

tumbling_step : (x y : Bool) (n r : ℕ) → (n ≤ r → T y) → suc n ≤ cond x (suc r) 0 → T (x && y)
tumbling_step true y n r f h = f (omega arith)
tumbling_step false y n r f h = absurd (omega arith)

run_step : (x y : Bool) (n r : ℕ) → (T y → n ≤ r) → T (x && y) → suc n ≤ cond x (suc r) 0
run_step true y n r f h = let k = f h in omega (arith, k)
run_step false y n r f h = absurd h

-- so many ticks in a row began airborne and tilted
run→tumbling : (n : ℕ) (l : List Began) → n ≤ run l → T (tumbling_for n l)
unfolding run tumbling_for
run→tumbling zero l h = tt
run→tumbling (suc n) [] h = absurd (omega arith)
run→tumbling (suc n) (b ∷ l) h = tumbling_step (tumbling b) (tumbling_for n l) n (run l) (λ k. run→tumbling n l k) h

tumbling→run : (n : ℕ) (l : List Began) → T (tumbling_for n l) → n ≤ run l
unfolding run tumbling_for
tumbling→run zero l h = omega arith
tumbling→run (suc n) [] h = absurd h
tumbling→run (suc n) (b ∷ l) h = run_step (tumbling b) (tumbling_for n l) n (run l) (λ k. tumbling→run n l k) h

not_mode : (m : Mode) → (m ≡ Terminated → ⊥) → is_mode m Terminated ≡ false
not_mode m h = go (is_mode m Terminated) refl
  where
    go : (x : Bool) → is_mode m Terminated ≡ x → is_mode m Terminated ≡ false
    go true e = absurd (h (is_mode→eq m Terminated (subst T (sym e) tt)))
    go false e = e

module _ (p : Place) (t : Tick) (i : Holding p) where
  abbrev now : Began
  now = began_now p t i

  abbrev in_air : Bool
  in_air = air p t i

  abbrev enough : Bool
  enough = leb tumbling_ticks (suc (run p.began))

  -- a tick that enters Terminated
  enters : (p.mode ≡ Terminated → ⊥) → (ticked_flight p t i).fsm.mode ≡ Terminated → T (in_air && runaway_enough (suc (run p.began)))
  enters h e =
      let f : is_mode p.supervisor.flight.fsm.mode Terminated ≡ false = not_mode p.supervisor.flight.fsm.mode (λ q. h (i.mode_is ∙ q)) in
      let a : Mode = (ticked_flight p t i).fsm.mode in
      let q = rw f at (tick_ends p.supervisor.flight (legs_in p.supervisor) t) in
      rw (one_more p t i) at (subst T q (eq→is_mode a Terminated e))

  forward : (p.mode ≡ Terminated → ⊥) → (ticked_flight p t i).fsm.mode ≡ Terminated → T (tumbling_for tumbling_ticks (now ∷ p.began))
  forward h e =
      let u : T (in_air && enough) = rw (enough_is (suc (run p.began))) at (enters h e) in
      let a : in_air ≡ true = is_true in_air (and_l in_air enough u) in
      let k = leb→le tumbling_ticks (suc (run p.began)) (and_r in_air enough u) in
      let r : run (now ∷ p.began) ≡ suc (run p.began) = run_now p t i ∙ rw a in
      run→tumbling tumbling_ticks (now ∷ p.began) (omega (arith, r, k))

  back : T (tumbling_for tumbling_ticks (now ∷ p.began)) → (p.mode ≡ Terminated → ⊥) × ((ticked_flight p t i).fsm.mode ≡ Terminated)
  back h = go in_air refl
    where
      k : tumbling_ticks ≤ run (now ∷ p.began)
      k = tumbling→run tumbling_ticks (now ∷ p.began) h

      go : (x : Bool) → in_air ≡ x → (p.mode ≡ Terminated → ⊥) × ((ticked_flight p t i).fsm.mode ≡ Terminated)
      go true e =
          let r : run (now ∷ p.began) ≡ suc (run p.began) = run_now p t i ∙ rw e in
          ((λ q. no_air p.supervisor.flight.fsm.mode (tilted_of t) (sym i.mode_is ∙ q) e), tick_terminates p t i e (omega (arith, r, k)))
      go false e = let r : run (now ∷ p.began) ≡ 0 = run_now p t i ∙ rw e in absurd (omega (arith, r, k))

fifty_seen :
    (p : Place) (a : Answered) (k : Option Request) (t : Tick)
    → Seen p.supervisor a k
    → Holding p
    → k ≡ Some (ticks t)
    → ((p.mode ≢ Terminated) × (next_mode p.mode a ≡ Terminated)) ↔ T (tumbling_for tumbling_ticks (next_began p.mode p.began k))
unfolding after_of flight_after
fifty_seen p _ _ t (refused n) i e = cc
fifty_seen p _ _ t (accepts r q) i e =
    let x : r ≡ ticks t = cc in
    rw (accepted_mode (after_of p.supervisor r) p.mode (output_of p.supervisor.flight (legs_in p.supervisor) r), x) ((λ u. forward p t i u.0 u.1), back p t i)

pub fifty_rule : (p : Place) (c : Call) → Holding p → FiftyTicks p c
unfolding next_place_of place_after
fifty_rule p c i t e = fifty_seen p _ _ t (seen p.supervisor c) i e

-- ---- the two-tick rule

-- the latch is the battery's of the state
latch_set : (s : Supervisor) (b : Option Battery) → b ≡ cond s.opened (Some s.flight.battery) None → T (latch_of b) → s.flight.battery.est.critical.latched ≡ true
latch_set s b e h = go s.opened refl
  where
    go : (o : Bool) → s.opened ≡ o → s.flight.battery.est.critical.latched ≡ true
    go true q =
        let w : cond s.opened (Some s.flight.battery) None ≡ Some s.flight.battery = rw q in
        is_true _ (subst (λ (x : Option Battery). T (latch_of x)) (e ∙ w) h)
    go false q =
        let w : cond s.opened (Some s.flight.battery) None ≡ None = rw q in
        absurd (subst (λ (x : Option Battery). T (latch_of x)) (e ∙ w) h)

latch_ticked : (b : Option Battery) (t : Tick) → T (latch_of b) → T (latch_of (next_battery b (Some (ticks t))))
latch_ticked None t h = h
latch_ticked (Some b) t h = subst T (sym (critical_stays b t.dt t.reading (is_true _ h))) tt

-- one call on: the phase goes on by an accepted tick, and the latch stays
record On (k : ℕ) (m : Mode) (b : Option Battery) : Type 0 where
  phase : T (phase_of k m)
  latch : T (latch_of b)

one_add : (k : ℕ) → suc k ≡ 1 + k
one_add k = omega arith

on_accepted :
    (p : Place) (k : ℕ) (r : Request)
    → Holding p
    → T (calm (Some r))
    → T (phase_of k p.supervisor.flight.fsm.mode)
    → T (latch_of p.battery)
    → On (tick_count (Some r) + k) (after_of p.supervisor r).flight.fsm.mode (next_battery p.battery (Some r))
unfolding after_of flight_after
on_accepted p k (opens o) i h f q = absurd h
on_accepted p k (ticks t) i h f q =
    let s = p.supervisor in
    record {
      phase =
          subst (λ (n : ℕ). T (phase_of n (ticked_flight p t i).fsm.mode)) (one_add k)
          (tick_phase k s.flight (legs_in s) t
          (critical_shown s.flight.battery t.dt t.reading i.shown_is
          ∙ critical_stays s.flight.battery t.dt t.reading (latch_set s p.battery i.battery_is q))
          f);
      latch = latch_ticked p.battery t q;
    }
on_accepted p k (reports failed) i h f q = record { phase = rw (zero-add k) (report_keeps_phase k p.supervisor.flight failed f); latch = q }
on_accepted p k (commands ev level low) i h f q = absurd h
on_accepted p k (plans x) i h f q = record { phase = rw (zero-add k, planned_mode p.supervisor.flight x) f; latch = q }

on_seen :
    (p : Place) (k : ℕ) (a : Answered) (r : Option Request)
    → Seen p.supervisor a r
    → Holding p
    → T (calm r)
    → T (phase_of k p.mode)
    → T (latch_of p.battery)
    → On (tick_count r + k) (next_mode p.mode a) (next_battery p.battery r)
on_seen p k _ _ (refused n) i h f q = record { phase = rw (zero-add k, refused_mode p.supervisor p.mode n) f; latch = q }
on_seen p k _ _ (accepts r e) i h f q =
    rw (accepted_mode (after_of p.supervisor r) p.mode (output_of p.supervisor.flight (legs_in p.supervisor) r))
    (on_accepted p k r i h (subst (λ (x : Mode). T (phase_of k x)) i.mode_is f) q)

on_call :
    (p : Place) (c : Call) (k : ℕ)
    → Holding p
    → T (calm (accepted_request p.supervisor c))
    → T (phase_of k p.mode)
    → T (latch_of p.battery)
    → On (tick_count (accepted_request p.supervisor c) + k) (next_place_of p c).mode (next_place_of p c).battery
unfolding next_place_of place_after
on_call p c k i h f q = on_seen p k _ _ (seen p.supervisor c) i h f q

swap : (a b c : ℕ) → a + (b + c) ≡ b + a + c
swap a b c = omega arith

calm_run :
    (p : Place) (l : List Call) (k : ℕ)
    → Holding p
    → T (phase_of k p.mode)
    → T (latch_of p.battery)
    → T (calm_from p l)
    → T (phase_of (ticks_from p l + k) (place_from p l).mode)
unfolding place_from calm_from ticks_from
calm_run p [] k i h q c = rw (zero-add k) h
calm_run p (x ∷ l) k i h q c =
    let r = accepted_request p.supervisor x in
    let o = on_call p x k i (and_l (calm r) (calm_from (next_place_of p x) l) c) h q in
    subst (λ (n : ℕ). T (phase_of n (place_from (next_place_of p x) l).mode)) (swap (ticks_from (next_place_of p x) l) (tick_count r) k)
    (calm_run (next_place_of p x) l (tick_count r + k) (next_holding p x i) o.phase o.latch (and_r (calm r) (calm_from (next_place_of p x) l) c))

landing_phase : (n : ℕ) (m : Mode) → landing_ticks ≤ n → T (phase_of n m) → T (landing_or_off_of m)
landing_phase zero m h p = absurd (omega arith)
landing_phase (suc zero) m h p = absurd (omega arith)
landing_phase (suc (suc n)) m h p = p

pub two_tick_rule : (p : Place) (l : List Call) → Holding p → TwoTicks p l
two_tick_rule p l i air latch c h =
    landing_phase (ticks_from p l + 0) (place_from p l).mode (omega arith) (calm_run p l 0 i (airborne_phase p.mode air) latch c)

-- ---- at every place of a list

holding_at : (l : List Call) → Holding (place_at_of l)
holding_at l = place_holding first_place l start_holding

pub demand3 : Demand3
demand3 calls =
    record {
      two_ticks = λ here further rest e. two_tick_rule (place_at_of here) further (holding_at here);
      rank_kept = λ here c rest e. rank_rule (place_at_of here) c (holding_at here);
      fifty_ticks = λ here c rest e. fifty_rule (place_at_of here) c (holding_at here);
    }
