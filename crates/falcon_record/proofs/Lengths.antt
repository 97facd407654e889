-- How many columns each part of a record has, and how many all have.
use Prim.Native.Nat.{ℕ, ◌+◌, ◌*◌}
use native.Mathlib.Omega.{arith}
use mathlib.Core.Bool.{Bool, true, false, cond}
use mathlib.Core.Path.{◌≡◌, refl, ◌∙◌}
use mathlib.Core.List.{List, [], ◌++◌}
use lib.ListN.{length, length-append}
use Rattle.falcon_state.specs.declared.point.Point.{Point}
use Rattle.falcon_state.specs.declared.zone.Zone.{Zone}
use Rattle.falcon_state.specs.declared.config.Config.{Config}
use Rattle.relay_batt.specs.Numbers.{estimator_numbers_of, state_numbers_of, silence_numbers_of, battery_numbers_of}
use Rattle.falcon_state.specs.declared.zone.Zones.{Zones}
use Rattle.falcon_state.specs.Point.{point_numbers_of}
use Rattle.falcon_state.specs.Zone.{max_keepout_zones, zone_numbers_of}
use Rattle.falcon_totals.specs.Totals.{totals_numbers}
use Rattle.falcon_core.specs.declared.supervisor.Supervisor.{Supervisor}
use Rattle.falcon_record.specs.Form.{Form, points_at, zone_width, zones_at, later_at, target_numbers, fields_of}
use Rattle.falcon_record.specs.Columns.{config_columns, check_columns, hold_columns, count_columns, use_columns, scalar_columns, point_columns, points_columns, zone_columns, zones_columns, later_columns, columns_in}
use Rattle.falcon_record.proofs.Stretch.{length_placed}

pub length_scalars : (s : Supervisor) → length (scalar_columns s) ≡ points_at
unfolding scalar_columns config_columns check_columns battery_numbers_of estimator_numbers_of state_numbers_of silence_numbers_of hold_columns count_columns totals_numbers use_columns
length_scalars s = refl

pub length_point : (p : Point) → length (point_columns p) ≡ point_numbers_of
unfolding point_columns
length_point p = refl

-- a zone without a top and with one
pub length_topped : (tops : Bool) (top : ℕ) (z : Zone) → length (zone_columns tops top z) ≡ cond tops (zone_numbers_of + 1) zone_numbers_of
unfolding zone_columns
length_topped true top z = refl
length_topped false top z = refl

pub length_zone : (form : Form) (top : ℕ) (z : Zone) → length (zone_columns form.has_tops top z) ≡ zone_width form
unfolding zone_width
length_zone form top z = length_topped form.has_tops top z

pub length_points : (form : Form) (s : Supervisor) → length (points_columns form s) ≡ point_numbers_of * form.places
unfolding points_columns
length_points form s = length_placed _ point_numbers_of (λ i. length_point _) form.places

pub length_zones : (form : Form) (zs : Zones) → length (zones_columns form zs) ≡ zone_width form * max_keepout_zones
unfolding zones_columns
length_zones form zs = length_placed _ (zone_width form) (λ i. length_zone form _ _) max_keepout_zones

length_cond : (b : Bool) (l : List ℕ) → length (cond b l []) ≡ cond b (length l) 0
length_cond true l = refl
length_cond false l = refl

pub length_later : (form : Form) (c : Config) → length (later_columns form c) ≡ cond form.has_opening 1 0 + cond form.has_target target_numbers 0
unfolding later_columns
length_later form c = simp (length-append, length_cond)

-- the columns before the first zone
pub length_before : (form : Form) (s : Supervisor) → length (scalar_columns s ++ points_columns form s) ≡ zones_at form
unfolding zones_at
length_before form s = length-append (scalar_columns s) (points_columns form s) ∙ simp (length_scalars s, length_points form s)

-- the columns before the later ones
pub length_before_later : (form : Form) (s : Supervisor) → length ((scalar_columns s ++ points_columns form s) ++ zones_columns form s.flight.zones) ≡ later_at form
unfolding later_at
length_before_later form s =
    length-append (scalar_columns s ++ points_columns form s) (zones_columns form s.flight.zones)
    ∙ simp (length_before form s, length_zones form s.flight.zones)

-- a line has the fields of its form
pub length_columns : (form : Form) (s : Supervisor) → length (columns_in form s) ≡ fields_of form
unfolding columns_in fields_of later_at zones_at
length_columns form s =
    simp (length-append, length_scalars s, length_points form s, length_zones form s.flight.zones, length_later form s.flight.config) (omega arith)
