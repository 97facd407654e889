-- The failsafe arbiter of document 01, "Triggers": severities, the policy's action, the latch.
use Rattle.std.specs.Prelude.{Bool, cond, ℕ, List, [], ◌∷◌, ltb, slice_get, Option}
use Rattle.relay_fsafe.specs.declared.FailsafeAction.{FailsafeAction}
use Rattle.relay_fsafe.specs.declared.FailsafeAction.TheVariants.{None, Hold, Rtl, Land, Terminate}
use Rattle.relay_fsafe.specs.declared.Triggers.{Triggers}
use Rattle.relay_fsafe.specs.declared.FailsafeArbiter.{FailsafeArbiter}

-- `FailsafeAction::severity`: the place in the enum's order
abbrev pub severity_of : FailsafeAction → ℕ
severity_of None = 0
severity_of Hold = 1
severity_of Rtl = 2
severity_of Land = 3
severity_of Terminate = 4

-- the actions in the order of severity
abbrev pub actions : List FailsafeAction
actions = None ∷ Hold ∷ Rtl ∷ Land ∷ Terminate ∷ []

-- the action of a severity, none above 4
unfoldable pub action_at : ℕ → Option FailsafeAction
action_at n = slice_get actions n

-- the graver of two actions, the first where they are equally grave
unfoldable pub graver_of : FailsafeAction → FailsafeAction → FailsafeAction
graver_of a b = cond (ltb (severity_of a) (severity_of b)) b a

-- the closure `bump` of `policy_action`: a raised action that is graver takes the place of the one so far
unfoldable pub bump_of : FailsafeAction → Bool → FailsafeAction → FailsafeAction
bump_of a raised act = cond raised (graver_of a act) a

-- `Triggers::policy_action`: the triggers in the Rust's order, each with the action that it raises
unfoldable pub policy_action_of : Triggers → FailsafeAction
policy_action_of t =
    let a1 = bump_of None t.offboard_stale Hold in
    let a2 = bump_of a1 t.rc_loss Rtl in
    let a3 = bump_of a2 t.datalink_loss Rtl in
    let a4 = bump_of a3 t.geofence_breach Rtl in
    let a5 = bump_of a4 t.low_battery Rtl in
    let a6 = bump_of a5 t.position_loss Land in
    bump_of a6 t.critical_battery Land

-- `FailsafeArbiter::evaluate`: "keeps the gravest so far."
unfoldable pub evaluate_of : FailsafeArbiter → Triggers → FailsafeArbiter
evaluate_of s t = record { latched = graver_of s.latched (policy_action_of t) }
