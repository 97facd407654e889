-- Lists of calls computed through the whole definition give what is written down here, so that demand 3's rules speak of something.
use Prim.Native.Nat.{ℕ, zero, suc}
use lib.Count.{ones}
use lib.Ieee.{Float, add, sub, mul, div, neg, lt, eq, le, ne, of_bits, of_int, round, units, is_nan, size, to_bits}
use lib.ListN.{replicate}
use mathlib.Core.Bool.{Bool, true, false}
use mathlib.Core.List.{List, [], ◌∷◌, ◌++◌, map}
use mathlib.Core.Path.{◌≡◌, refl}
use Rattle.relay_fsm.specs.declared.Event.TheVariants.{Arm, RequestTakeoff}
use Rattle.relay_fsm.specs.Mode.{mode_number}
use Rattle.relay_fsm.specs.Event.{event_at}
use Rattle.relay_fsm.specs.Fsm.{row_of, on_of}
use Rattle.columns.specs.Line.{line_of, onto, before, fields, length_ok, read_within}
use Rattle.columns.specs.Field.{in_range, digits, first_digit, spaced, field_read, kind_of, column, columns, field_of}
use Rattle.relay_math.specs.Small.{f32, f32_zero, max_of, clamp_of}
use Rattle.relay_math.specs.Root.{root_by, whole_root_of, nearest_root_of, special_operands_of, unlimited_precision_of, to_digits, rounding, exponent_range_of, root_of}
use Rattle.relay_preflight.specs.Check.{all_checks}
use Rattle.relay_preflight.specs.Table.{bit_of, with_bit_of, set_of, legacy_passed_of, fails_of, failing_mask_of, outstanding_of}
use Rattle.relay_preflight.specs.Verdict.{first_blocker_of}
use Rattle.relay_batt.specs.declared.battery.Reading.{Reading}
use Rattle.relay_batt.specs.declared.battery.Reading.TheVariants.{Nothing, Volts}
use Rattle.relay_batt.specs.Battery.{new_battery_of, heard_of, update_of, lost_of}
use Rattle.relay_batt.specs.Config.{default_of, cells_of, per_cell_of, for_pack_of, capacity_of}
use Rattle.relay_batt.specs.Curve.{sanitize_of, knots, walk, table_of, ocv_soc_cell_of}
use Rattle.relay_batt.specs.Estimator.{none_of, shown_of, new_estimator_of, consumed_of, rest_volts_of, soc_of, volts_only_of, estimator_update_of}
use Rattle.relay_batt.specs.Latch.{trip_of}
use Rattle.relay_batt.specs.Numbers.{estimator_numbers_of, state_numbers_of, silence_numbers_of, battery_numbers_of}
use Rattle.falcon_totals.specs.Counts.{counts_of, count_of}
use Rattle.falcon_totals.specs.Totals.{no_totals, counted_of, totals_numbers}
use Rattle.falcon_state.specs.Point.{point_of, origin}
use Rattle.falcon_state.specs.Flight.{opened_of}
use Rattle.falcon_guidance.specs.Geometry.{norm_of, distance_of, pad_less_of, height_of}
use Rattle.falcon_guidance.specs.Hold.{horiz_speed_of, entered_of, left_of, in_regime_of, held_of}
use Rattle.falcon_guidance.specs.Setpoint.{cruise_over_of}
use Rattle.falcon_events.specs.Failsafe.{breach_gives, breached_of, tilted_of, runaway_enough, runaway_counted, runaway_gives, runaway_of, gusty_of, wind_enough, wind_counted, wind_gives, wind_of, report_of}
use Rattle.falcon_events.specs.Milestone.{high_of, near_home_of, near_ground_of, milestone_gives, milestone_of}
use Rattle.falcon_state.specs.declared.config.OpeningKind.TheVariants.{Ground}
use Rattle.falcon_tick.specs.Preflight.{geofence_sane_of, nav_rows_of, integrity_rows_of, readiness_rows_of, update_preflight_of, esc_telemetry_of}
use Rattle.falcon_tick.specs.Tick.{before_breach, after_breach, after_runaway, after_wind, reached, after_tick, answered, tick_of}
use Rattle.falcon_core.specs.Calls.{opens, ticks, reports, commands, plans, points, totals, shape_refusal, sequence_refusal_of, state_refusal, refusal_of, command_of, planned_of, flight_after, waypoints_after, output_of, totals_after, after_of, refused_of, accepted_of, step_of}
use Rattle.falcon_core.specs.Answer.{answer_of, numbers_of}
use Rattle.falcon_record.specs.Saved.{saved_over, columns_of, save_step}
use Rattle.falcon_record.specs.Columns.{config_columns, check_columns, hold_columns, count_columns, use_columns, scalar_columns, placed, place_in, point_columns, points_columns, zone_columns, zones_columns, later_columns, columns_in}
use Rattle.requests.specs.ByLine.{reply_numbers, reply_of, need_fields_of, need_of, buffered_line_asks, line_step, extra_of}
use Rattle.requests.specs.Kinds.{opening_from_of, opening_line_of, reading_from_of, battery_ok_of, tick_from_of, tick_ok_of, tick_line_of, command_line_of, alone_line_of, kind_at, numbers_ask}
use Rattle.requests.specs.Parse.{limit_fields_of, line_numbers, line_asks}
use Rattle.call_lists.specs.Lists.{next_place_of, place_from, answers_from, first_place, Call, by_values, by_line, by_array, Place, latch_of, call_step, accepted_request, place_after}

-- home 0, fence 100, cruise 10, opening volts 21
abbrev opening : Call
opening =
    by_values
    (opens
    (record {
      home = origin;
      fence_radius = f32 0x42c8_0000;
      cruise_alt = f32 0x4120_0000;
      low_batt_v = f32 0x41a8_0000;
      required = 0;
      passed = 0;
      calibration_configured = false;
      opening_kind = Ground;
    }))

-- a tick of one second, ten metres north of home and five up
abbrev tick : Float → Reading → Call
tick tilt reading =
    by_values
    (ticks
    (record {
      dt = f32 0x3f80_0000;
      p = point_of (f32 0x4120_0000) f32_zero (f32 0xc0a0_0000);
      v = origin;
      tilt = tilt;
      tilt_uncertainty = f32_zero;
      max_motor = f32_zero;
      nav_compromised = false;
      gnss_diverged = false;
      failed_motor = false;
      motor_rpm = false;
      reading = reading;
    }))

-- one volt for six cells
abbrev flat : Call
flat = tick f32_zero (Volts (f32 0x3f80_0000))

-- tilt 1.5
abbrev tilted : Call
tilted = tick (f32 0x3fc0_0000) Nothing

abbrev no_failure : Call
no_failure = by_values (reports false)

-- no reading
abbrev no_reading : Call
no_reading = tick f32_zero Nothing

-- opened; the critical latch trips on the ground; armed and taking off
abbrev tripped : List Call
tripped = opening ∷ flat ∷ flat ∷ by_values (commands Arm true true) ∷ by_values (commands RequestTakeoff true true) ∷ []

-- opened, armed and taking off; then a list of points that is refused and a line of no kind
abbrev flying : List Call
flying =
    opening
    ∷ by_values (commands Arm true true)
    ∷ by_values (commands RequestTakeoff true true)
    ∷ by_values (plans (points (f32_zero ∷ f32_zero ∷ [])))
    ∷ by_line (49 ∷ 50 ∷ []) (replicate 110 0)
    ∷ []

-- a line of these numbers, with a buffer of 110 bytes
abbrev line : List ℕ → Call
line ns = by_line (line_of ns) (replicate 110 0)

-- document 01's worked example: the lines of its input
abbrev worked_calls : List Call
worked_calls =
    line (1 ∷ 0 ∷ 0 ∷ 0 ∷ 1120403456 ∷ 1092616192 ∷ 1096810496 ∷ 0 ∷ 0 ∷ 0 ∷ [])
    ∷ line (4 ∷ 0 ∷ 1 ∷ 1 ∷ [])
    ∷ line (4 ∷ 1 ∷ 1 ∷ 1 ∷ [])
    ∷ line (2 ∷ replicate 17 0)
    ∷ []

-- and the numbers of its output
abbrev worked_answers : List (List ℕ)
worked_answers =
    (0 ∷ 0 ∷ 0 ∷ 0 ∷ 0 ∷ 0 ∷ 0 ∷ 0 ∷ 0 ∷ 21 ∷ [])
    ∷ (0 ∷ 1 ∷ 0 ∷ 0 ∷ 0 ∷ 0 ∷ 0 ∷ 0 ∷ 0 ∷ 21 ∷ [])
    ∷ (0 ∷ 2 ∷ 0 ∷ 0 ∷ 0 ∷ 0 ∷ 0 ∷ 0 ∷ 0 ∷ 21 ∷ [])
    ∷ (0 ∷ 2 ∷ 0 ∷ 0 ∷ 1 ∷ 0 ∷ 0 ∷ 3240099840 ∷ 0 ∷ 21 ∷ [])
    ∷ []

-- a line of kind 7, with a buffer of so many bytes
abbrev kind_7 : ℕ → Call
kind_7 room = by_line (line_of (7 ∷ [])) (replicate room 0)

-- a breach at home: opened with fence -1, armed and taking off; the tick goes from Takeoff by Rtl to Land, a second one is refused, and its report follows
abbrev breach_calls : List Call
breach_calls =
    line (1 ∷ 0 ∷ 0 ∷ 0 ∷ 3212836864 ∷ 1092616192 ∷ 1101529088 ∷ 0 ∷ 0 ∷ 0 ∷ [])
    ∷ line (4 ∷ 0 ∷ 1 ∷ 1 ∷ [])
    ∷ line (4 ∷ 1 ∷ 1 ∷ 1 ∷ [])
    ∷ line (2 ∷ replicate 17 0)
    ∷ line (2 ∷ replicate 17 0)
    ∷ no_failure
    ∷ []

-- the totals asked for: by a line with a byte too many and 150 bytes of buffer, by one whose number begins with 0 and 110, by line with 208 and with 209 bytes,
-- by values, after an opening that is refused, and after one that is not
abbrev totals_calls : List Call
totals_calls =
    by_line (line_of (7 ∷ []) ++ (32 ∷ [])) (replicate 150 0)
    ∷ by_line (replicate 9 32 ++ (48 ∷ 55 ∷ [])) (replicate 110 0)
    ∷ kind_7 208
    ∷ kind_7 209
    ∷ by_values (plans totals)
    ∷ line (1 ∷ 0 ∷ 0 ∷ 0 ∷ 0 ∷ 0 ∷ 0 ∷ 2097152 ∷ 0 ∷ 0 ∷ [])
    ∷ kind_7 209
    ∷ opening
    ∷ kind_7 209
    ∷ []

-- the numbers answered
abbrev totals_answers : List (List ℕ)
totals_answers =
    (9 ∷ 5 ∷ 0 ∷ 0 ∷ 0 ∷ 0 ∷ 0 ∷ 0 ∷ 0 ∷ 21 ∷ [])
    ∷ (2 ∷ 5 ∷ 0 ∷ 0 ∷ 0 ∷ 0 ∷ 0 ∷ 0 ∷ 0 ∷ 21 ∷ [])
    ∷ (9 ∷ 5 ∷ 0 ∷ 0 ∷ 0 ∷ 0 ∷ 0 ∷ 0 ∷ 0 ∷ 21 ∷ [])
    ∷ (0 ∷ 5 ∷ 0 ∷ 0 ∷ 0 ∷ 0 ∷ 0 ∷ 0 ∷ 0 ∷ 21 ∷ 0 ∷ 0 ∷ 0 ∷ 0 ∷ 0 ∷ 1 ∷ 0 ∷ 0 ∷ 3 ∷ [])
    ∷ (0 ∷ 5 ∷ 0 ∷ 0 ∷ 0 ∷ 0 ∷ 0 ∷ 0 ∷ 0 ∷ 21 ∷ 0 ∷ 0 ∷ 0 ∷ 0 ∷ 0 ∷ 1 ∷ 0 ∷ 0 ∷ 3 ∷ [])
    ∷ (5 ∷ 5 ∷ 0 ∷ 0 ∷ 0 ∷ 0 ∷ 0 ∷ 0 ∷ 0 ∷ 21 ∷ [])
    ∷ (0 ∷ 5 ∷ 0 ∷ 0 ∷ 0 ∷ 0 ∷ 0 ∷ 0 ∷ 0 ∷ 21 ∷ 0 ∷ 0 ∷ 0 ∷ 0 ∷ 0 ∷ 1 ∷ 0 ∷ 0 ∷ 3 ∷ [])
    ∷ (0 ∷ 0 ∷ 0 ∷ 0 ∷ 0 ∷ 0 ∷ 0 ∷ 0 ∷ 0 ∷ 21 ∷ [])
    ∷ (0 ∷ 0 ∷ 0 ∷ 0 ∷ 0 ∷ 0 ∷ 0 ∷ 0 ∷ 0 ∷ 21 ∷ 0 ∷ 0 ∷ 0 ∷ 0 ∷ 0 ∷ 0 ∷ 0 ∷ 0 ∷ 0 ∷ [])
    ∷ []

-- the state asked for: by a line with a byte too many and 150 bytes of buffer, by line with 1,869 bytes, with a field too many, by values with an array of
-- 159 places, of 160, and by line with 1,870 bytes
abbrev save_calls : List Call
save_calls =
    by_line (line_of (8 ∷ []) ++ (32 ∷ [])) (replicate 150 0)
    ∷ by_line (line_of (8 ∷ [])) (replicate 1869 0)
    ∷ by_line (line_of (8 ∷ 0 ∷ [])) (replicate 1870 0)
    ∷ by_array (replicate 159 7)
    ∷ by_array (replicate 160 7)
    ∷ by_line (line_of (8 ∷ [])) (replicate 1870 0)
    ∷ []

-- the columns of the state after the breach
abbrev breach_columns : List ℕ
breach_columns =
    (9 ∷ 0 ∷ 0 ∷ 0 ∷ 3212836864 ∷ 1092616192 ∷ 1101529088 ∷ 6 ∷ 0 ∷ 0 ∷ 786659 ∷ 5 ∷ 0 ∷ 1019517862 ∷ [])
    ++ (replicate 27 0 ++ ((1 ∷ 0 ∷ 0 ∷ 0 ∷ 0 ∷ 0 ∷ 0 ∷ 1 ∷ 0 ∷ 0 ∷ 3 ∷ []) ++ (replicate 83 0 ++ (1 ∷ []))))

-- the numbers answered
abbrev save_answers : List (List ℕ)
save_answers =
    (9 ∷ 5 ∷ 0 ∷ 0 ∷ 0 ∷ 0 ∷ 0 ∷ 0 ∷ 0 ∷ 21 ∷ [])
    ∷ (9 ∷ 5 ∷ 0 ∷ 0 ∷ 0 ∷ 0 ∷ 0 ∷ 0 ∷ 0 ∷ 21 ∷ [])
    ∷ (4 ∷ 5 ∷ 0 ∷ 0 ∷ 0 ∷ 0 ∷ 0 ∷ 0 ∷ 0 ∷ 21 ∷ [])
    ∷ (9 ∷ 5 ∷ 0 ∷ 0 ∷ 0 ∷ 0 ∷ 0 ∷ 0 ∷ 0 ∷ 21 ∷ [])
    ∷ ((0 ∷ 5 ∷ 0 ∷ 0 ∷ 0 ∷ 0 ∷ 0 ∷ 0 ∷ 0 ∷ 21 ∷ []) ++ breach_columns)
    ∷ ((0 ∷ 5 ∷ 0 ∷ 0 ∷ 0 ∷ 0 ∷ 0 ∷ 0 ∷ 0 ∷ 21 ∷ []) ++ breach_columns)
    ∷ []

-- on a roof, with home at z -30: opened by a line of this kind, armed and taking off; a tick on the pad, one 9.9 m over it, Land, and a tick on the pad
abbrev roof_calls : ℕ → List Call
roof_calls kind =
    let on_pad : Call = line (2 ∷ 0 ∷ 0 ∷ 0 ∷ 3253731328 ∷ replicate 13 0) in
    line (kind ∷ 0 ∷ 0 ∷ 3253731328 ∷ 1120403456 ∷ 1092616192 ∷ 1101529088 ∷ 0 ∷ 0 ∷ 0 ∷ [])
    ∷ line (4 ∷ 0 ∷ 1 ∷ 1 ∷ [])
    ∷ line (4 ∷ 1 ∷ 1 ∷ 1 ∷ [])
    ∷ on_pad
    ∷ no_failure
    ∷ line (2 ∷ 0 ∷ 0 ∷ 0 ∷ 3256850842 ∷ replicate 13 0)
    ∷ no_failure
    ∷ line (4 ∷ 5 ∷ 1 ∷ 1 ∷ [])
    ∷ on_pad
    ∷ []

-- the modes after each call
abbrev modes : Place → List Call → List ℕ
modes p [] = []
modes p (c ∷ l) = mode_number (next_place_of p c).mode ∷ modes (next_place_of p c) l

-- the critical battery latch after each call
abbrev latches : Place → List Call → List Bool
latches p [] = []
latches p (c ∷ l) = latch_of (next_place_of p c).battery ∷ latches (next_place_of p c) l

-- n tilted ticks, each with its report
abbrev tumble : ℕ → List Call
tumble zero = []
tumble (suc n) = tilted ∷ no_failure ∷ tumble n

-- the last of a list
abbrev last_of : ℕ → List ℕ → ℕ
last_of m [] = m
last_of m (n ∷ l) = last_of n l

-- document 01's worked example, by line; two ticks and not one: the latch is set before takeoff, the first tick after it leads to Rtl and the second to Land;
-- the critical battery is seen to Rtl and then to Land, with the latch set from the second flat tick on; 49 tilted ticks fly on in Takeoff, 50 end in Terminated;
-- a breach at home has three changes and one tick, which ended in Land; on a roof kind 10 climbs out and touches down, kind 1 does neither
seen_in_lists :
    (map reply_of (answers_from first_place worked_calls) ≡ map line_of worked_answers)
    × (modes first_place (tripped ++ (no_reading ∷ no_failure ∷ no_reading ∷ [])) ≡ 0 ∷ 0 ∷ 0 ∷ 1 ∷ 2 ∷ 6 ∷ 6 ∷ 5 ∷ [])
    × (latches first_place tripped ≡ false ∷ false ∷ true ∷ true ∷ true ∷ [])
    × (modes first_place (flying ++ (flat ∷ no_failure ∷ flat ∷ no_failure ∷ flat ∷ [])) ≡ 0 ∷ 1 ∷ 2 ∷ 2 ∷ 2 ∷ 2 ∷ 2 ∷ 6 ∷ 6 ∷ 5 ∷ [])
    × (latches first_place (flying ++ (flat ∷ no_failure ∷ flat ∷ [])) ≡ false ∷ false ∷ false ∷ false ∷ false ∷ false ∷ false ∷ true ∷ [])
    × (last_of 0 (modes first_place (flying ++ tumble 49)) ≡ 2)
    × (last_of 0 (modes first_place (flying ++ tumble 50)) ≡ 7)
    × (modes first_place (roof_calls 10) ≡ 0 ∷ 1 ∷ 2 ∷ 2 ∷ 2 ∷ 3 ∷ 3 ∷ 5 ∷ 0 ∷ [])
    × (modes first_place (roof_calls 1) ≡ 0 ∷ 1 ∷ 2 ∷ 3 ∷ 3 ∷ 3 ∷ 3 ∷ 5 ∷ 5 ∷ [])
    × (map reply_numbers (answers_from (place_from first_place breach_calls) totals_calls) ≡ totals_answers)
    × (counts_of (place_from first_place breach_calls).counted ≡ 0 ∷ 0 ∷ 0 ∷ 0 ∷ 0 ∷ 1 ∷ 0 ∷ 0 ∷ 3 ∷ [])
    × (map reply_numbers (answers_from (place_from first_place breach_calls) save_calls) ≡ save_answers)
    × (saved_over (place_from first_place breach_calls).supervisor (replicate 161 7) ≡ breach_columns ++ replicate 25 7)
unfolding event_at row_of on_of onto before fields length_ok read_within line_of in_range digits first_digit spaced field_read kind_of column columns field_of max_of clamp_of root_by whole_root_of nearest_root_of special_operands_of unlimited_precision_of to_digits rounding exponent_range_of root_of all_checks bit_of with_bit_of set_of legacy_passed_of fails_of failing_mask_of outstanding_of first_blocker_of new_battery_of heard_of update_of lost_of default_of cells_of per_cell_of for_pack_of capacity_of sanitize_of knots walk table_of ocv_soc_cell_of none_of shown_of new_estimator_of consumed_of rest_volts_of soc_of volts_only_of estimator_update_of trip_of estimator_numbers_of state_numbers_of silence_numbers_of battery_numbers_of count_of counts_of no_totals counted_of totals_numbers opened_of norm_of distance_of pad_less_of height_of horiz_speed_of cruise_over_of entered_of left_of in_regime_of held_of breach_gives breached_of tilted_of runaway_enough runaway_counted runaway_gives runaway_of gusty_of wind_enough wind_counted wind_gives wind_of report_of high_of near_home_of near_ground_of milestone_gives milestone_of geofence_sane_of nav_rows_of integrity_rows_of readiness_rows_of update_preflight_of esc_telemetry_of before_breach after_breach after_runaway after_wind reached after_tick answered tick_of shape_refusal sequence_refusal_of state_refusal refusal_of command_of planned_of flight_after waypoints_after output_of totals_after after_of refused_of accepted_of step_of answer_of numbers_of columns_of save_step saved_over config_columns check_columns hold_columns count_columns use_columns scalar_columns placed place_in point_columns points_columns zone_columns zones_columns later_columns columns_in need_fields_of need_of buffered_line_asks line_step extra_of reply_numbers reply_of opening_from_of opening_line_of reading_from_of battery_ok_of tick_from_of tick_ok_of tick_line_of command_line_of alone_line_of kind_at numbers_ask limit_fields_of line_numbers line_asks call_step accepted_request place_after next_place_of place_from answers_from first_place add sub mul div neg lt eq le ne of_bits of_int round units is_nan size to_bits ones
seen_in_lists = (refl, refl, refl, refl, refl, refl, refl, refl, refl, refl, refl, refl, refl)
