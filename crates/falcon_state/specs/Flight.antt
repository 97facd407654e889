-- The flight that an opening leaves.
use Rattle.std.specs.Prelude.{true, false, replicate}
use Rattle.relay_fsm.specs.declared.Mode.TheVariants.{Disarmed}
use Rattle.relay_batt.specs.Battery.{new_battery_of}
use Rattle.relay_batt.specs.Config.{for_opening_volts_of}
use Rattle.relay_preflight.specs.Table.{new_table_of, legacy_passed_of}
use Rattle.relay_math.specs.Small.{f32_zero}
use Rattle.falcon_state.specs.Zone.{no_zone, max_keepout_zones}
use Rattle.falcon_state.specs.declared.flight.Opening.{Opening}
use Rattle.falcon_state.specs.declared.flight.FlightSupervisor.{FlightSupervisor}

-- `with_core`, with document 01's masks: "the opening gives the required and the passed mask; checks 0..5 are then set passed"
unfoldable pub opened_of : Opening → FlightSupervisor
opened_of o =
    record {
      config =
          record {
            home = o.home;
            fence_radius = o.fence_radius;
            cruise_alt = o.cruise_alt;
            low_batt_v = o.low_batt_v;
            calibration_configured = o.calibration_configured;
            opening_kind = o.opening_kind;
          };
      fsm = record { mode = Disarmed };
      battery = new_battery_of (for_opening_volts_of o.low_batt_v);
      mission = record { wp_count = 0; wp_index = 0 };
      zones = record { zones = replicate max_keepout_zones no_zone; zone_count = 0 };
      hold =
          record {
            hold_xy = record { x = o.home.x; y = o.home.y };
            hold_regime = false;
            hold_braking = false;
            brake_s = f32_zero;
            brake_rest_s = f32_zero;
          };
      counts = record { runaway_count = 0; wind_count = 0 };
      check_table = legacy_passed_of (new_table_of o.required o.passed);
      rtl_latched = false;
      motors_were_off = true;
    }
