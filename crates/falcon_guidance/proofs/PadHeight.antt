-- The height and the cruise setpoints by the opening: by kind 1 whatever home's z is, by kind 10 from home.
use mathlib.Core.Bool.{true, false}
use mathlib.Core.Path.{◌≡◌, refl, ap, ◌∙◌}
use lib.Dec.{T}
use lib.Ieee.Scale.{finite}
use Rattle.std.specs.Prelude.{Float}
use Rattle.std.specs.Float.{binary32}
use Rattle.std.specs.Float.Ieee.{sub, neg}
use Rattle.relay_math.specs.Small.{f32_zero}
use Rattle.relay_math.proofs.Difference.{difference_zero}
use Rattle.relay_fsm.specs.declared.Mode.TheVariants.{Takeoff, Loiter, Land, Rtl}
use Rattle.falcon_state.specs.declared.point.Point.{Point}
use Rattle.falcon_state.specs.declared.point.Horizontal.{Horizontal}
use Rattle.falcon_state.specs.declared.config.Config.{Config}
use Rattle.falcon_state.specs.declared.config.OpeningKind.TheVariants.{Ground, Raised}
use Rattle.falcon_state.specs.declared.tick.Tick.{Tick}
use Rattle.falcon_state.specs.Point.{point_of}
use Rattle.falcon_guidance.specs.Geometry.{pad_less_of, height_of}
use Rattle.falcon_guidance.specs.Setpoint.{cruise_over_of, setpoint_of}

module _ (c : Config) where
  -- U5: "Kind 1 goes on as the Rust does", the height
  pub ground_height : (p : Point) → c.opening_kind ≡ Ground → height_of c p ≡ neg p.z
  unfolding height_of pad_less_of
  ground_height p e = rw e refl

  -- U5: "measures height as `home[2] − p[2]`"
  pub raised_height : (p : Point) → c.opening_kind ≡ Raised → height_of c p ≡ sub binary32 c.home.z p.z
  unfolding height_of pad_less_of
  raised_height p e = rw e refl

  -- on a raised pad the height is zero, wherever the pad is
  pub raised_on_pad : (p : Point) → c.opening_kind ≡ Raised → T (finite c.home.z) → p.z ≡ c.home.z → height_of c p ≡ f32_zero
  raised_on_pad p e h q = raised_height p e ∙ rw q (difference_zero c.home.z h)

-- the setpoints of the modes that fly at the cruise height are at this z: in Takeoff and Loiter over the hold point, in Rtl and Land over home, and in Land with
-- a failed motor where the shuttle is
pub record CruiseAt (c : Config) (z : Float) : Type 0 where
  pub takeoff : (w : Point) (h : Horizontal) (t : Tick) → setpoint_of Takeoff c w h t ≡ point_of h.x h.y z
  pub loiter : (w : Point) (h : Horizontal) (t : Tick) → setpoint_of Loiter c w h t ≡ point_of h.x h.y z
  pub rtl : (w : Point) (h : Horizontal) (t : Tick) → setpoint_of Rtl c w h t ≡ point_of c.home.x c.home.y z
  pub land : (w : Point) (h : Horizontal) (t : Tick) → t.failed_motor ≡ false → setpoint_of Land c w h t ≡ point_of c.home.x c.home.y z
  pub failed_land : (w : Point) (h : Horizontal) (t : Tick) → t.failed_motor ≡ true → setpoint_of Land c w h t ≡ point_of t.p.x t.p.y z

cruise_at : (c : Config) (z : Float) → pad_less_of c.opening_kind c.home.z c.cruise_alt ≡ z → CruiseAt c z
unfolding cruise_over_of
cruise_at c z e =
    record {
      takeoff = λ w h t. ap (point_of h.x h.y) e;
      loiter = λ w h t. ap (point_of h.x h.y) e;
      rtl = λ w h t. ap (point_of c.home.x c.home.y) e;
      land = λ w h t q. rw q (ap (point_of c.home.x c.home.y) e);
      failed_land = λ w h t q. rw q (ap (point_of t.p.x t.p.y) e);
    }

-- U5: "Kind 1 goes on as the Rust does", the four setpoints
pub ground_cruise : (c : Config) → c.opening_kind ≡ Ground → CruiseAt c (neg c.cruise_alt)
unfolding pad_less_of
ground_cruise c e = cruise_at c (neg c.cruise_alt) (rw e refl)

-- U5: "sets the cruise setpoint at `home[2]` less the cruise height", each of the four
pub raised_cruise : (c : Config) → c.opening_kind ≡ Raised → CruiseAt c (sub binary32 c.home.z c.cruise_alt)
unfolding pad_less_of
raised_cruise c e = cruise_at c (sub binary32 c.home.z c.cruise_alt) (rw e refl)
