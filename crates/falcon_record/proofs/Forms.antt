-- The field counts tell the forms apart, and the bytes of a written line are read as its columns.
use Prim.Native.Nat.{ℕ, ◌≤◌}
use mathlib.Core.List.{List}
use native.Mathlib.Omega.{arith}
use Rattle.std.specs.Prelude.{Some}
use mathlib.Core.Path.{◌≡◌, refl, sym, ap, ◌∙◌}
use Rattle.columns.specs.Line.{read_within, line_of}
use Rattle.columns.proofs.LineAgain.{line_again}
use Rattle.falcon_state.specs.declared.config.OpeningKind.TheVariants.{Ground}
use Rattle.falcon_state.specs.Point.{max_waypoints}
use Rattle.falcon_core.specs.declared.supervisor.Supervisor.{Supervisor}
use Rattle.falcon_record.specs.Form.{Form, zone_width, zones_at, later_at, fields_of, first_form, opening_form, long_form, topped_form, target_form, form_of}
use Rattle.falcon_record.specs.Columns.{columns_in}
use Rattle.falcon_record.specs.From.{record_from}
use Rattle.falcon_record.specs.Kept.{Kept, Carries}
use Rattle.falcon_record.proofs.Back.{older_ground}
use Rattle.falcon_record.proofs.Lengths.{length_columns}
use Rattle.falcon_record.proofs.Range.{columns_in_range}

-- how many fields each form has
pub fields_are :
    (fields_of first_form ≡ 135)
    × (fields_of opening_form ≡ 136)
    × (fields_of long_form ≡ 280)
    × (fields_of topped_form ≡ 288)
    × (fields_of target_form ≡ 297)
unfolding fields_of later_at zones_at zone_width
fields_are = (refl, refl, refl, refl, refl)

-- U7: "is told by its field count", each of them
pub form_told :
    (form_of (fields_of first_form) ≡ Some first_form)
    × (form_of (fields_of opening_form) ≡ Some opening_form)
    × (form_of (fields_of long_form) ≡ Some long_form)
    × (form_of (fields_of topped_form) ≡ Some topped_form)
    × (form_of (fields_of target_form) ≡ Some target_form)
unfolding form_of fields_of later_at zones_at zone_width
form_told = (refl, refl, refl, refl, refl)

-- U6: "A line from before U5 reads as opening 1", by its 135 fields, whatever its numbers are
pub older_told : (form : Form) (ns : List ℕ) → form_of 135 ≡ Some form → (record_from form ns).flight.config.opening_kind ≡ Ground
older_told form ns e =
    let one : Some form ≡ Some first_form = sym e ∙ ap form_of (sym fields_are.0) ∙ form_told.0 in
    let first : form ≡ first_form = cc in
    older_ground form ns (ap (λ (f : Form). f.has_opening) first)

-- the bytes of a written line are read as its columns, by any limit from its field count on
pub line_back : (form : Form) (s : Supervisor) (limit : ℕ) → Kept s → fields_of form ≤ limit → read_within limit (line_of (columns_in form s)) ≡ Some (columns_in form s)
unfolding fields_of later_at zones_at
line_back form s limit k h =
    let long = length_columns form s in
    line_again limit (columns_in form s) (omega arith) (omega arith) (columns_in_range form s k)

-- a form with a place for each waypoint has room for every kept state
pub carries : (form : Form) (s : Supervisor) → max_waypoints ≤ form.places → Kept s → Carries form s
carries form s h k = omega (arith, k.sound.mission.places.few)
