-- The hold point: latched on entry to Takeoff or Loiter, after braking where Loiter is entered while moving.
use Rattle.std.specs.Prelude.{Bool, true, false, cond, ◌&&◌, ◌||◌, Float}
use Rattle.std.specs.Float.{binary32}
use Rattle.std.specs.Float.Ieee.{add, sub, mul, lt, le}
use Rattle.relay_math.specs.Small.{f32, f32_zero}
use Rattle.relay_fsm.specs.declared.Mode.{Mode}
use Rattle.relay_fsm.specs.declared.Mode.TheVariants.{Takeoff, Loiter}
use Rattle.relay_fsm.specs.Mode.{is_mode}
use Rattle.falcon_state.specs.declared.tick.Tick.{Tick}
use Rattle.falcon_state.specs.declared.hold.Hold.{Hold}
use Rattle.falcon_state.specs.declared.point.Horizontal.{Horizontal}
use Rattle.falcon_guidance.specs.Geometry.{norm_of}

-- `HOLD_BRAKE_LEAD_S` 8.0, `HOLD_BRAKE_ENTRY_MS` 0.3, `HOLD_REST_MS` 0.1, `HOLD_REST_S` 3.0 and `HOLD_BRAKE_MAX_S` 30.0
abbrev pub hold_brake_lead_s : Float
hold_brake_lead_s = f32 0x4100_0000

abbrev pub hold_brake_entry_ms : Float
hold_brake_entry_ms = f32 0x3e99_999a

abbrev pub hold_rest_ms : Float
hold_rest_ms = f32 0x3dcc_cccd

abbrev pub hold_rest_s : Float
hold_rest_s = f32 0x4040_0000

abbrev pub hold_brake_max_s : Float
hold_brake_max_s = f32 0x41f0_0000

-- `horiz_speed`
unfoldable pub horiz_speed_of : Tick → Float
horiz_speed_of t = norm_of t.v.x t.v.y

-- `HoldRegime::Hold` is the regime of Takeoff and Loiter
abbrev pub holds_of : Mode → Bool
holds_of m = is_mode m Takeoff || is_mode m Loiter

-- where the vehicle is
abbrev pub horiz_position_of : Tick → Horizontal
horiz_position_of t = record { x = t.p.x; y = t.p.y }

-- the brake point, behind the vehicle along its own velocity so that it brakes: "braking to p + 8 v instead of p − 8 v" is wrong
unfoldable pub brake_point_of : Tick → Horizontal
brake_point_of t =
    record {
      x = sub binary32 t.p.x (mul binary32 t.v.x hold_brake_lead_s);
      y = sub binary32 t.p.y (mul binary32 t.v.y hold_brake_lead_s);
    }

-- entry to the regime: the point is latched where the vehicle is, and Loiter entered while moving brakes first
unfoldable pub entered_of : Hold → Mode → Tick → Hold
entered_of h m t =
    cond h.hold_regime h
    (record {
      hold_xy = horiz_position_of t;
      hold_regime = true;
      hold_braking = is_mode m Loiter && lt hold_brake_entry_ms (horiz_speed_of t);
      brake_s = f32_zero;
      brake_rest_s = f32_zero;
    })

-- `brake_rest_s`: the time at rest without a break
unfoldable pub brake_rest_of : Hold → Tick → Float
brake_rest_of h t = cond (lt (horiz_speed_of t) hold_rest_ms) (add binary32 h.brake_rest_s t.dt) f32_zero

-- braking: at rest long enough, or out of time, the point is latched where the vehicle is; until then it is the brake point
unfoldable pub braked_of : Hold → Tick → Hold
braked_of h t =
    let brake = add binary32 h.brake_s t.dt in
    let rest = brake_rest_of h t in
    cond (le hold_rest_s rest || le hold_brake_max_s brake)
    (record h { hold_xy = horiz_position_of t; hold_braking = false; brake_s = brake; brake_rest_s = rest })
    (record h { hold_xy = brake_point_of t; hold_braking = true; brake_s = brake; brake_rest_s = rest })

-- another regime: no braking, and the next entry latches afresh
unfoldable pub left_of : Hold → Hold
left_of h = record h { hold_regime = false; hold_braking = false }

-- in the regime: entry where it is new, then braking where that goes on
unfoldable pub in_regime_of : Hold → Mode → Tick → Hold
in_regime_of h m t = let e = entered_of h m t in cond e.hold_braking (braked_of e t) e

-- the hold paragraph
unfoldable pub held_of : Hold → Mode → Tick → Hold
held_of h m t = cond (holds_of m) (in_regime_of h m t) (left_of h)
