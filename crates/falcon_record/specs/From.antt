-- The state that the columns of a line of kind 9 carry: column k of docs/RECORD.md is number k - 1 here.
use Rattle.std.specs.Prelude.{ℕ, ◌+◌, ◌*◌, true, false, cond, List, replicate}
use Rattle.relay_math.specs.Small.{number_at, float_at, flag_at}
use Rattle.relay_fsm.specs.Mode.{mode_or_disarmed}
use Rattle.relay_batt.specs.Config.{for_pack_of}
use Rattle.relay_batt.specs.declared.battery.Battery.{Battery}
use Rattle.relay_batt.specs.Numbers.{battery_by}
use Rattle.falcon_state.specs.declared.point.Point.{Point}
use Rattle.falcon_state.specs.declared.zone.Zone.{Zone}
use Rattle.falcon_state.specs.declared.config.Config.{Config}
use Rattle.falcon_state.specs.declared.config.OpeningKind.{OpeningKind}
use Rattle.falcon_state.specs.declared.config.OpeningKind.TheVariants.{Ground}
use Rattle.falcon_state.specs.Config.{opening_or_ground}
use Rattle.falcon_state.specs.declared.zone.Zones.{Zones}
use Rattle.falcon_state.specs.declared.hold.Hold.{Hold}
use Rattle.falcon_state.specs.Point.{point_of, origin, point_numbers_of, max_waypoints}
use Rattle.falcon_state.specs.Zone.{zone_of, no_zone, max_keepout_zones}
use Rattle.falcon_state.specs.declared.flight.FlightSupervisor.{FlightSupervisor}
use Rattle.falcon_guidance.specs.Lent.{filled_of}
use Rattle.falcon_totals.specs.declared.DayTotals.{DayTotals}
use Rattle.falcon_core.specs.declared.supervisor.Supervisor.{Supervisor}
use Rattle.falcon_record.specs.Form.{Form, points_at, zones_at, zone_width, later_at}

-- the point whose first number is number k
abbrev pub point_from_of : List ℕ → ℕ → Point
point_from_of ns k = point_of (float_at ns k) (float_at ns (k + 1)) (float_at ns (k + 2))

-- U6: "A line from before U5 reads as opening 1."
unfoldable pub opening_kind_from : Form → List ℕ → OpeningKind
opening_kind_from form ns = cond form.has_opening (opening_or_ground (number_at ns (later_at form))) Ground

unfoldable pub config_from_of : Form → List ℕ → Config
config_from_of form ns =
    record {
      home = point_from_of ns 1;
      fence_radius = float_at ns 4;
      cruise_alt = float_at ns 5;
      low_batt_v = float_at ns 6;
      calibration_configured = flag_at ns 8;
      opening_kind = opening_kind_from form ns;
    }

-- numbers 12 to 32; the pack is the one that the opening volts give for so many cells
unfoldable pub battery_from_of : List ℕ → Battery
battery_from_of ns = battery_by (for_pack_of (number_at ns 7) (float_at ns 6)) (λ k. number_at ns (12 + k))

unfoldable pub hold_from : List ℕ → Hold
hold_from ns =
    record {
      hold_xy = record { x = float_at ns 33; y = float_at ns 34 };
      hold_regime = flag_at ns 35;
      hold_braking = flag_at ns 36;
      brake_s = float_at ns 37;
      brake_rest_s = float_at ns 38;
    }

unfoldable pub totals_from : List ℕ → DayTotals
totals_from ns =
    record {
      disarmed = number_at ns 43;
      armed = number_at ns 44;
      takeoff = number_at ns 45;
      loiter = number_at ns 46;
      mission = number_at ns 47;
      land = number_at ns 48;
      rtl = number_at ns 49;
      terminated = number_at ns 50;
      changed = number_at ns 51;
    }

-- the zone whose first number is number k
abbrev pub zone_from : List ℕ → ℕ → Zone
zone_from ns k = zone_of (point_from_of ns k) (float_at ns (k + 3))

-- U6: "places beyond the counts not read"
unfoldable pub points_from : List ℕ → List Point
points_from ns = filled_of (λ i. point_from_of ns (points_at + point_numbers_of * i)) (number_at ns 52) (replicate max_waypoints origin)

unfoldable pub zones_from : Form → List ℕ → Zones
zones_from form ns =
    record {
      zones = filled_of (λ i. zone_from ns (zones_at form + zone_width form * i)) (number_at ns 54) (replicate max_keepout_zones no_zone);
      zone_count = number_at ns 54;
    }

unfoldable pub flight_from : Form → List ℕ → FlightSupervisor
flight_from form ns =
    record {
      config = config_from_of form ns;
      fsm = record { mode = mode_or_disarmed (number_at ns 11) };
      battery = battery_from_of ns;
      mission = record { wp_count = number_at ns 52; wp_index = number_at ns 53 };
      zones = zones_from form ns;
      hold = hold_from ns;
      counts = record { runaway_count = number_at ns 39; wind_count = number_at ns 40 };
      check_table = record { required = number_at ns 9; passed = number_at ns 10 };
      rtl_latched = flag_at ns 41;
      motors_were_off = flag_at ns 42;
    }

-- an opened state in which no report is due: kind 8 is refused in any other
unfoldable pub record_from : Form → List ℕ → Supervisor
record_from form ns =
    record { flight = flight_from form ns; waypoints = points_from ns; opened = true; report_due = false; totals = totals_from ns }
