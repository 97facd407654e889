-- The failsafe policy by severities.
use Rattle.std.specs.Prelude.{ℕ}
use Rattle.std.specs.Option.{option_map_or}
use Rattle.relay_fsafe.specs.declared.FailsafeAction.{FailsafeAction}
use Rattle.relay_fsafe.specs.declared.FailsafeArbiter.{FailsafeArbiter}
use Rattle.relay_fsafe.specs.declared.Triggers.{Triggers}
use Rattle.relay_fsafe.specs.Fsafe.{severity_of, action_at, policy_action_of, evaluate_of}
use Rattle.exports.specs.Numbers.{unknown, bit}

-- the triggers by the seven lowest bits, in the order of the Rust's fields
unfoldable pub triggers_from_of : ℕ → Triggers
triggers_from_of n = record {
  rc_loss = bit n 1;
  datalink_loss = bit n 2;
  geofence_breach = bit n 4;
  position_loss = bit n 8;
  low_battery = bit n 16;
  critical_battery = bit n 32;
  offboard_stale = bit n 64;
}

-- `Triggers::policy_action` by numbers
unfoldable pub policy_number : ℕ → ℕ
policy_number t = severity_of (policy_action_of (triggers_from_of t))

-- the arbiter that has latched an action
abbrev pub latching : FailsafeAction → FailsafeArbiter
latching a = record { latched = a }

-- `FailsafeArbiter::evaluate` by numbers
unfoldable pub evaluate_number : ℕ → ℕ → ℕ
evaluate_number latched t = option_map_or (λ a. severity_of (evaluate_of (latching a) (triggers_from_of t)).latched) (action_at latched) unknown
