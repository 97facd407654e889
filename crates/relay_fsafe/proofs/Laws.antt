-- The policy's action is the gravest that a trigger raises and Land where position is lost, and the latched action never falls.
use mathlib.Core.Path.{◌≡◌, refl}
use mathlib.Core.Bool.{Bool, true, false, cond}
use mathlib.Core.Logic.{◌⊎◌, inl, inr}
use Prim.Native.Nat.{ℕ, ◌≤◌}
use native.Mathlib.Omega.{arith}
use Rattle.std.proofs.lemmas.Bool.Decides.{nat_tests}
use Rattle.std.specs.Prelude as prelude
use Rattle.relay_fsafe.specs.declared.FailsafeAction.{FailsafeAction}
use Rattle.relay_fsafe.specs.declared.FailsafeAction.TheVariants.{None, Hold, Rtl, Land, Terminate}
use Rattle.relay_fsafe.specs.declared.Triggers.{Triggers}
use Rattle.relay_fsafe.specs.declared.FailsafeArbiter.{FailsafeArbiter}
use Rattle.relay_fsafe.specs.Fsafe.{severity_of, action_at, graver_of, bump_of, policy_action_of, evaluate_of}

-- an action's severity is read as that action
pub action_at_severity : (a : FailsafeAction) → action_at (severity_of a) ≡ prelude.Some a
unfolding action_at
action_at_severity None = refl
action_at_severity Hold = refl
action_at_severity Rtl = refl
action_at_severity Land = refl
action_at_severity Terminate = refl

-- the graver of two actions is one of them, and no less grave than either

graver_one : (a b : FailsafeAction) → (graver_of a b ≡ a) ⊎ (graver_of a b ≡ b)
unfolding graver_of
graver_one a b = pick _
  where
    pick : (x : Bool) → (cond x b a ≡ a) ⊎ (cond x b a ≡ b)
    pick true = inr refl
    pick false = inl refl

graver_first : (a b : FailsafeAction) → severity_of a ≤ severity_of (graver_of a b)
unfolding graver_of
graver_first a b = grind (arith, nat_tests)

graver_second : (a b : FailsafeAction) → severity_of b ≤ severity_of (graver_of a b)
unfolding graver_of
graver_second a b = grind (arith, nat_tests)

-- ---- the policy

-- the actions that the triggers raise: "stale offboard Hold; rc loss, datalink loss, fence, low battery Rtl; position loss, critical battery Land"
pub data Raised (t : Triggers) : FailsafeAction → Type 0 where
  by_stale_offboard : t.offboard_stale ≡ true → Raised t Hold
  by_rc_loss : t.rc_loss ≡ true → Raised t Rtl
  by_datalink_loss : t.datalink_loss ≡ true → Raised t Rtl
  by_geofence_breach : t.geofence_breach ≡ true → Raised t Rtl
  by_low_battery : t.low_battery ≡ true → Raised t Rtl
  by_position_loss : t.position_loss ≡ true → Raised t Land
  by_critical_battery : t.critical_battery ≡ true → Raised t Land

-- a bump is at least as grave as what was, and as what is raised
bump_first : (n : ℕ) (a : FailsafeAction) (raised : Bool) (b : FailsafeAction) → n ≤ severity_of a → n ≤ severity_of (bump_of a raised b)
unfolding bump_of
bump_first n a false b h = h
bump_first n a true b h = omega (arith, graver_first a b)

bump_second : (a : FailsafeAction) (raised : Bool) (b : FailsafeAction) → raised ≡ true → severity_of b ≤ severity_of (bump_of a raised b)
unfolding bump_of
bump_second a raised b r = rw r (graver_second a b)

-- the action is at least as grave as each that is raised
pub policy_gravest : (t : Triggers) {a : FailsafeAction} → Raised t a → severity_of a ≤ severity_of (policy_action_of t)
unfolding policy_action_of
policy_gravest t (by_stale_offboard r) = search (bump_first, bump_second, r) depth 9
policy_gravest t (by_rc_loss r) = search (bump_first, bump_second, r) depth 9
policy_gravest t (by_datalink_loss r) = search (bump_first, bump_second, r) depth 9
policy_gravest t (by_geofence_breach r) = search (bump_first, bump_second, r) depth 9
policy_gravest t (by_low_battery r) = search (bump_first, bump_second, r) depth 9
policy_gravest t (by_position_loss r) = search (bump_first, bump_second, r) depth 9
policy_gravest t (by_critical_battery r) = search (bump_first, bump_second, r) depth 9

-- a bump to one of two actions
step : {t : Triggers} {raised : Bool} {a b : FailsafeAction} → (raised ≡ true → Raised t b) → (a ≡ None) ⊎ Raised t a → (bump_of a raised b ≡ None) ⊎ Raised t (bump_of a raised b)
unfolding bump_of
step {raised = false} f m = m
step {t} {raised = true} {a} {b} f m =
    elim (graver_one a b) [
      | inl e ↦ rw e m
      | inr e ↦ rw e (inr (f refl))
    ]

-- it is None or raised
pub policy_raised : (t : Triggers) → (policy_action_of t ≡ None) ⊎ Raised t (policy_action_of t)
unfolding policy_action_of
policy_raised t =
    step by_critical_battery
    (step by_position_loss
    (step by_low_battery
    (step by_geofence_breach (step by_datalink_loss (step by_rc_loss (step by_stale_offboard (inl refl)))))))

-- where position is lost it is Land, so never Rtl
pub position_loss_lands : (t : Triggers) → t.position_loss ≡ true → policy_action_of t ≡ Land
position_loss_lands t r = go (policy_raised t) (policy_gravest t (by_position_loss r))
  where
    go : {a : FailsafeAction} → (a ≡ None) ⊎ Raised t a → 3 ≤ severity_of a → a ≡ Land
    go (inl e) h = absurd (let k : 3 ≤ 0 = rw e at h in omega arith)
    go (inr (by_position_loss _)) h = refl
    go (inr (by_critical_battery _)) h = refl
    go (inr m) h = absurd (omega arith)

-- ---- the arbiter

-- the latched action never falls
pub evaluate_kept : (s : FailsafeArbiter) (t : Triggers) → severity_of s.latched ≤ severity_of (evaluate_of s t).latched
unfolding evaluate_of
evaluate_kept s t = graver_first s.latched (policy_action_of t)

-- it is at least as grave as the policy's
pub evaluate_reaches : (s : FailsafeArbiter) (t : Triggers) → severity_of (policy_action_of t) ≤ severity_of (evaluate_of s t).latched
unfolding evaluate_of
evaluate_reaches s t = graver_second s.latched (policy_action_of t)

-- and is one of the two
pub evaluate_one : (s : FailsafeArbiter) (t : Triggers) → ((evaluate_of s t).latched ≡ s.latched) ⊎ ((evaluate_of s t).latched ≡ policy_action_of t)
unfolding evaluate_of
evaluate_one s t = graver_one s.latched (policy_action_of t)
