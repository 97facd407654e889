-- The twelve rows of document 01 that are marked P: what the definitions give, as a number, beside what the paper says.
use Rattle.std.specs.Prelude.{ℕ, ◌+◌, ◌^◌, Bool, true, false, ◌&&◌, List, [], ◌∷◌, eqb}
use Rattle.std.specs.Float.{nan}
use Rattle.relay_math.specs.Small.{f32, f32_zero, bits, flag_number}
use Rattle.relay_math.specs.Root.{root}
use Rattle.relay_batt.specs.Curve.{sanitize_of, ocv_soc_cell_of}
use Rattle.relay_fsm.specs.declared.Mode.TheVariants.{Takeoff, Loiter, Land, Rtl}
use Rattle.relay_fsm.specs.declared.Event.TheVariants.{RequestLand, Failsafe}
use Rattle.relay_fsm.specs.declared.Gates.{Gates}
use Rattle.relay_fsm.specs.Mode.{mode_number}
use Rattle.relay_fsm.specs.Fsm.{on_of}
use Rattle.relay_fsafe.specs.declared.FailsafeAction.TheVariants as action
use Rattle.relay_fsafe.specs.declared.Triggers.{Triggers}
use Rattle.relay_fsafe.specs.Fsafe.{severity_of, policy_action_of}
use Rattle.relay_preflight.specs.declared.CheckId.TheVariants.{MotorsHealthy, BatteryTakeoffMargin}
use Rattle.relay_preflight.specs.Check.{check_number}
use Rattle.relay_preflight.specs.Table.{new_table_of}
use Rattle.relay_preflight.specs.Verdict.{first_blocker_of, blocker_number}
use Rattle.falcon_state.specs.declared.config.Config.{Config}
use Rattle.falcon_state.specs.declared.config.OpeningKind.TheVariants.{Ground}
use Rattle.falcon_state.specs.Point.{point_of, origin}
use Rattle.falcon_guidance.specs.Mission.{waypoint_admissible_of}

-- a row: what is computed, and what is expected
pub record Row : Type 0 where
  pub computed : ℕ
  pub expected : ℕ

abbrev pub expects : ℕ → ℕ → Row
expects n m = record { computed = n; expected = m }

-- gates that are open but for the position
abbrev pub gates : Bool → Gates
gates position = record { level = true; throttle_low = true; have_position = position; prearm_ok = true }

-- "stale offboard with low battery"
abbrev pub stale_and_low : Triggers
stale_and_low =
    record {
      rc_loss = false;
      datalink_loss = false;
      geofence_breach = false;
      position_loss = false;
      low_battery = true;
      critical_battery = false;
      offboard_stale = true;
    }

-- "home 0, fence 100"
abbrev pub home_and_fence : Config
home_and_fence =
    record {
      home = origin;
      fence_radius = f32 0x42c8_0000;
      cruise_alt = f32_zero;
      low_batt_v = f32_zero;
      calibration_configured = false;
      opening_kind = Ground;
    }

-- root 4.0 is 2.0; root -0 is -0; root -1.0 is NaN; `sanitize`(NaN, 0, 60, 0) is 0; curve 3.50 is 0; Takeoff with RequestLand stays;
-- Rtl with Failsafe is Land; Loiter, Failsafe, no position is Land; stale offboard with low battery is Rtl; MotorsHealthy and
-- BatteryTakeoffMargin blocked names 19; home 0, fence 100, point (0, 0, -120) passes; (0, 0, -0.5) doesn't
unfoldable pub rows : List Row
rows =
    expects (bits (root (f32 0x4080_0000))) 0x4000_0000
    ∷ expects (bits (root (f32 0x8000_0000))) 0x8000_0000
    ∷ expects (bits (root (f32 0xbf80_0000))) 0x7fc0_0000
    ∷ expects (bits (sanitize_of nan f32_zero (f32 0x4270_0000) f32_zero)) 0
    ∷ expects (bits (ocv_soc_cell_of (f32 0x4060_0000))) 0
    ∷ expects (mode_number (on_of Takeoff RequestLand (gates true))) (mode_number Takeoff)
    ∷ expects (mode_number (on_of Rtl Failsafe (gates true))) (mode_number Land)
    ∷ expects (mode_number (on_of Loiter Failsafe (gates false))) (mode_number Land)
    ∷ expects (severity_of (policy_action_of stale_and_low)) (severity_of action.Rtl)
    ∷ expects (blocker_number (first_blocker_of (new_table_of (2 ^ check_number MotorsHealthy + 2 ^ check_number BatteryTakeoffMargin) 0))) 19
    ∷ expects (flag_number (waypoint_admissible_of home_and_fence (point_of f32_zero f32_zero (f32 0xc2f0_0000)))) 1
    ∷ expects (flag_number (waypoint_admissible_of home_and_fence (point_of f32_zero f32_zero (f32 0xbf00_0000)))) 0
    ∷ []

-- every row computes what it expects
unfoldable pub agree : List Row → Bool
agree [] = true
agree (r ∷ rs) = eqb r.computed r.expected && agree rs
