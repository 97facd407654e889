-- What a rule over modes and tests that is true in every case says of a paragraph of the tick: `wind_by f l t (λ gusty enough m n. rule) tt`, with m the mode before and n the mode after.
use mathlib.Core.Bool.{Bool, ◌&&◌}
use lib.Dec.{T}
use lib.Ieee.Fits.{and_l, and_r}
use Rattle.relay_fsm.specs.declared.Mode.{Mode}
use Rattle.relay_fsm.proofs.Finite.{◌⇒◌, then, Rule, all, at}
use Rattle.falcon_state.specs.declared.mission.Legs.{Legs}
use Rattle.falcon_state.specs.declared.tick.Tick.{Tick}
use Rattle.falcon_state.specs.declared.flight.FlightSupervisor.{FlightSupervisor}
use Rattle.falcon_guidance.specs.Geometry.{height_of}
use Rattle.falcon_events.specs.Failsafe.{without_position_of, mode_given_of, mode_after, breach_of, breach_event, breach_gives, breached_of}
use Rattle.falcon_events.specs.Failsafe.{tilted_of, runaway_enough, runaway_event, runaway_counted, runaway_gives, runaway_of}
use Rattle.falcon_events.specs.Failsafe.{gusty_of, wind_enough, wind_event, wind_counted, wind_gives, wind_of, report_event, report_of}
use Rattle.falcon_events.specs.Milestone.{high_of, near_home_of, near_ground_of, arrived_of, more_of, milestone_event, milestone_gives, milestone_of}
use Rattle.falcon_tick.specs.Tick.{dist_home, outside, battery, before_breach, after_breach, after_runaway, after_wind, reached, tick_of}
use Rattle.falcon_core.proofs.Stages.{tick_mode}

-- the rules, and what they say in every case

abbrev pub Rule2 : Type 0
Rule2 = Bool → Bool → Mode → Mode → Bool

abbrev pub Rule5 : Type 0
Rule5 = Bool → Bool → Bool → Bool → Bool → Mode → Mode → Bool

-- breach, critical
abbrev breach_case : Rule2 → Rule 2
breach_case r b c m = r b c m (mode_after m (breach_event m b c))

-- tilted, enough
abbrev runaway_case : Rule2 → Rule 2
runaway_case r b c m = r b c m (mode_after m (runaway_event m b c))

-- gusty, enough
abbrev wind_case : Rule2 → Rule 2
wind_case r b c m = r b c m (mode_after m (wind_event m b c))

-- high, near home, near the ground, arrived, more legs
abbrev milestone_case : Rule5 → Rule 5
milestone_case r a b c d e m = r a b c d e m (mode_after m (milestone_event m a b c d e))

-- failed
abbrev report_case : (Bool → Mode → Mode → Bool) → Rule 1
report_case r b m = r b m (mode_given_of m (report_event m b) without_position_of)

abbrev pub breach_rule : Rule2 → Bool
breach_rule r = all 2 (breach_case r)

abbrev pub runaway_rule : Rule2 → Bool
runaway_rule r = all 2 (runaway_case r)

abbrev pub wind_rule : Rule2 → Bool
wind_rule r = all 2 (wind_case r)

abbrev pub milestone_rule : Rule5 → Bool
milestone_rule r = all 5 (milestone_case r)

abbrev pub report_rule : (Bool → Mode → Mode → Bool) → Bool
report_rule r = all 1 (report_case r)

-- the paragraphs

module _ (f : FlightSupervisor) (l : Legs) (t : Tick) where
  pub breach_by :
      (r : Rule2) → T (breach_rule r)
      → T (r (breach_of (battery f l t) (outside f l t)) (battery f l t).state.critical f.fsm.mode (after_breach f l t).mode)
  unfolding after_breach breached_of breach_gives before_breach
  breach_by r h = at 2 (breach_case r) h _ _ _

  pub runaway_by :
      (r : Rule2) → T (runaway_rule r)
      → T (r (tilted_of t) (runaway_enough (runaway_counted (after_breach f l t) t)) (after_breach f l t).mode (after_runaway f l t).mode)
  unfolding after_runaway runaway_of runaway_gives
  runaway_by r h = at 2 (runaway_case r) h _ _ _

  pub wind_by :
      (r : Rule2) → T (wind_rule r)
      → T (r (gusty_of t) (wind_enough (wind_counted (after_runaway f l t) t)) (after_runaway f l t).mode (after_wind f l t).mode)
  unfolding after_wind wind_of wind_gives
  wind_by r h = at 2 (wind_case r) h _ _ _

  pub milestone_by :
      (r : Rule5) → T (milestone_rule r)
      → T (r (high_of f.config (height_of f.config t.p)) (near_home_of (dist_home f l t)) (near_ground_of (height_of f.config t.p)) (arrived_of l.here t.p) (more_of f.mission) (after_wind f l t).mode (reached f l t).mode)
  unfolding reached milestone_of milestone_gives
  milestone_by r h = at 5 (milestone_case r) h _ _ _ _ _ _

pub report_by :
    (r : Bool → Mode → Mode → Bool) → T (report_rule r)
    → (f : FlightSupervisor) (failed : Bool) → T (r failed f.fsm.mode (report_of f failed).fsm.mode)
unfolding report_of
report_by r h f failed = at 1 (report_case r) h _ _

-- the whole tick: what each paragraph keeps

-- every paragraph after the breach keeps p
abbrev pub later_keep : (Mode → Bool) → Bool
later_keep p =
    runaway_rule (λ b c m n. p m ⇒ p n) && wind_rule (λ b c m n. p m ⇒ p n) && milestone_rule (λ a b c d e m n. p m ⇒ p n)

abbrev pub stages_keep : (Mode → Bool) → Bool
stages_keep p = breach_rule (λ b c m n. p m ⇒ p n) && later_keep p

module _ (p : Mode → Bool) (f : FlightSupervisor) (l : Legs) (t : Tick) where
  keep : Mode → Mode → Bool
  keep m n = p m ⇒ p n

  pub later_keeps : T (later_keep p) → T (p (after_breach f l t).mode) → T (p (tick_of f l t).flight.fsm.mode)
  unfolding keep
  later_keeps h q =
      let r : Bool = runaway_rule (λ b c. keep) in
      let w : Bool = wind_rule (λ b c. keep) in
      let s : Bool = milestone_rule (λ a b c d e. keep) in
      let hr : T r = and_l r w (and_l (r && w) s h) in
      let hw : T w = and_r r w (and_l (r && w) s h) in
      let hs : T s = and_r (r && w) s h in
      let m1 : Mode = (after_breach f l t).mode in
      let m2 : Mode = (after_runaway f l t).mode in
      let m3 : Mode = (after_wind f l t).mode in
      let m4 : Mode = (reached f l t).mode in
      let q2 : T (p m2) = then (p m1) (p m2) (runaway_by f l t (λ b c. keep) hr) q in
      let q3 : T (p m3) = then (p m2) (p m3) (wind_by f l t (λ b c. keep) hw) q2 in
      rw (tick_mode f l t) (then (p m3) (p m4) (milestone_by f l t (λ a b c d e. keep) hs) q3)

  pub tick_keeps : T (stages_keep p) → T (p f.fsm.mode) → T (p (tick_of f l t).flight.fsm.mode)
  unfolding keep
  tick_keeps h q =
      let b : Bool = breach_rule (λ b c. keep) in
      later_keeps (and_r b (later_keep p) h)
      (then (p f.fsm.mode) (p (after_breach f l t).mode) (breach_by f l t (λ b c. keep) (and_l b (later_keep p) h)) q)
