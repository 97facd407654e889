-- The forms of a line of kind 9: a later request adds columns, and the field count alone tells which form a line has.
use Rattle.std.specs.Prelude.{ℕ, ◌+◌, ◌*◌, Bool, true, false, cond, List, [], ◌∷◌, find, eqb, Option}
use Rattle.falcon_state.specs.Point.{point_numbers_of}
use Rattle.falcon_state.specs.Zone.{zone_numbers_of, max_keepout_zones}

-- places for points, whether a zone has a top, and which later columns there are: the opening's kind; the clock, the target's time, the target and the source
pub record Form : Type 0 where
  pub places : ℕ
  pub has_tops : Bool
  pub has_opening : Bool
  pub has_target : Bool

-- the columns before the first point
abbrev pub points_at : ℕ
points_at = 55

-- the numbers of a zone. U10: "Zone lines have five numbers a zone, the top last", "and the record of kind 9 too"
unfoldable pub zone_width : Form → ℕ
zone_width form = cond form.has_tops (zone_numbers_of + 1) zone_numbers_of

-- the columns before the first zone
unfoldable pub zones_at : Form → ℕ
zones_at form = points_at + point_numbers_of * form.places

-- the columns before the later ones
unfoldable pub later_at : Form → ℕ
later_at form = zones_at form + zone_width form * max_keepout_zones

-- U11: "Clock and target time (two numbers each, high half first), a flag whether there is a target, target (0 with time 0 if none) and source"
abbrev pub target_numbers : ℕ
target_numbers = 9

-- the fields of a line
unfoldable pub fields_of : Form → ℕ
fields_of form = later_at form + (cond form.has_opening 1 0 + cond form.has_target target_numbers 0)

-- U2: sixteen places, four numbers a zone
abbrev pub first_form : Form
first_form = record { places = 16; has_tops = false; has_opening = false; has_target = false }

-- U5: "Kind 9 records which opening was used."
abbrev pub opening_form : Form
opening_form = record { places = 16; has_tops = false; has_opening = true; has_target = false }

-- U7: "new ones are written with sixty-four"
abbrev pub long_form : Form
long_form = record { places = 64; has_tops = false; has_opening = true; has_target = false }

-- U10: "A zone gains a top height"
abbrev pub topped_form : Form
topped_form = record { places = 64; has_tops = true; has_opening = true; has_target = false }

-- U11: clock, target and source "join kind 9"
abbrev pub target_form : Form
target_form = record { places = 64; has_tops = true; has_opening = true; has_target = true }

abbrev pub forms : List Form
forms = first_form ∷ opening_form ∷ long_form ∷ topped_form ∷ target_form ∷ []

-- U7: "is told by its field count"
unfoldable pub form_of : ℕ → Option Form
form_of n = find (λ form. eqb (fields_of form) n) forms
