-- What the call by values for the state answers and puts into its array, by the array's length and by whether it is accepted.
use Prim.Native.Nat.{ℕ, ◌+◌, ◌≤◌, ◌<◌}
use native.Mathlib.Omega.{arith}
use mathlib.Core.Path.{◌≡◌, refl, ap, ◌∙◌}
use mathlib.Core.List.{List, [], ◌++◌}
use mathlib.Core.Bool.{true, false}
use borrow.Author.Tests.{lt-ltb, le-ltb}
use Rattle.std.specs.Prelude.{is_ok}
use lib.ListN.{length, length-append}
use Rattle.columns.specs.Line.{over, put_over}
use Rattle.columns.proofs.Writing.{put_behind, over_all}
use Rattle.falcon_core.specs.declared.supervisor.Supervisor.{Supervisor}
use Rattle.falcon_core.specs.Calls.{plans, saves, refused_of, step_of}
use Rattle.falcon_core.specs.Answer.{answer_of}
use Rattle.falcon_core.specs.declared.refusal.Refusal.TheVariants.{ShortBuffer}
use Rattle.falcon_record.specs.Form.{points_at, zone_width, zones_at, later_at, fields_of}
use Rattle.falcon_record.specs.Columns.{scalar_columns, place_in, point_columns, zone_columns, points_columns, zones_columns, later_columns, place_columns, columns_in}
use Rattle.falcon_record.specs.Saved.{written_form, columns_of, record_fields, record_room, save_step, saved_over}
use Rattle.falcon_record.proofs.Lengths.{length_scalars, length_columns}
use Rattle.falcon_record.proofs.Stretch.{places_placed}
use Rattle.std.specs.List.{flat_map}
use Rattle.falcon_state.specs.declared.zone.Zones.{Zones}
use Rattle.falcon_state.specs.Point.{origin, nowhere, max_waypoints}
use Rattle.falcon_state.specs.Zone.{no_zone, no_place, max_keepout_zones}
use Rattle.falcon_core.specs.SoundState.{first_of}

-- the rows of the points and of the zones are their columns
points_are :
    (s : Supervisor)
    → length s.waypoints ≡ max_waypoints
    → flat_map (λ x. x) (first_of (λ i. point_columns (place_in origin origin s.waypoints s.flight.mission.wp_count i)) max_waypoints)
    ≡ points_columns written_form s
unfolding points_columns
points_are s long = let all = places_placed point_columns nowhere origin s.waypoints s.flight.mission.wp_count in rw long at all

zones_are :
    (zs : Zones)
    → length zs.zones ≡ max_keepout_zones
    → flat_map (λ x. x) (first_of (λ i. zone_columns false 0 (place_in no_zone no_zone zs.zones zs.zone_count i)) max_keepout_zones)
    ≡ zones_columns written_form zs
unfolding zones_columns zone_columns
zones_are zs long = let all = places_placed (zone_columns false 0) no_place no_zone zs.zones zs.zone_count in rw long at all

-- the columns from the first point on: the rows, and the opening's kind
pub places_parts :
    (s : Supervisor)
    → length s.waypoints ≡ max_waypoints
    → length s.flight.zones.zones ≡ max_keepout_zones
    → place_columns written_form s
    ≡ flat_map (λ x. x) (first_of (λ i. point_columns (place_in origin origin s.waypoints s.flight.mission.wp_count i)) max_waypoints)
    ++ (flat_map (λ x. x) (first_of (λ i. zone_columns false 0 (place_in no_zone no_zone s.flight.zones.zones s.flight.zones.zone_count i)) max_keepout_zones)
    ++ later_columns written_form s.flight.config)
places_parts s h k = rw (points_are s h, zones_are s.flight.zones k)

-- 136 of them
pub columns_count : (s : Supervisor) → length (columns_of s) ≡ record_fields
unfolding columns_of
columns_count s = length_columns written_form s

-- two parts, one behind the other, that take the whole array
put_two :
    (x y a b d n m : List ℕ) (at : ℕ) →
    a ≡ x →
    b ≡ y →
    length x ≡ at →
    at + length y ≡ length d →
    n ≡ put_over 0 a d →
    m ≡ put_over at b n →
    m ≡ x ++ y
put_two x y a b d n m at ea eb e h p q =
    let all : length (x ++ y) ≡ length d = length-append x y ∙ omega arith in
    let first : n ≡ over x d = put_behind [] x d d n 0 refl (omega arith) refl (p ∙ ap (λ (l : List ℕ). put_over 0 l d) ea) in
    put_behind x y d n m at e (omega arith) first (q ∙ ap (λ (l : List ℕ). put_over at l n) eb) ∙ over_all (x ++ y) d all

-- those before the first point and those from it on, put into an array of as many places
pub columns_put :
    (s : Supervisor) (a b d n m : List ℕ) →
    a ≡ scalar_columns s →
    b ≡ place_columns written_form s →
    length d ≡ record_fields →
    n ≡ put_over 0 a d →
    m ≡ put_over points_at b n →
    m ≡ columns_of s
unfolding columns_of columns_in
columns_put s a b d n m ea eb e p q =
    let all : length (scalar_columns s ++ place_columns written_form s) ≡ record_fields = columns_count s in
    let long : points_at + length (place_columns written_form s) ≡ length d =
    omega (arith, length-append (scalar_columns s) (place_columns written_form s), length_scalars s) in
    put_two (scalar_columns s) (place_columns written_form s) a b d n m points_at ea eb (length_scalars s) long p q

-- at most the 160 that there is room for
pub record_fits : record_fields ≤ record_room
unfolding fields_of later_at zones_at zone_width
record_fits = omega arith

module _ (s : Supervisor) (a : List ℕ) where
  -- too short: refused, and nothing is put
  module _ (h : length a < record_room) where
    pub short_refused : refused_of s ShortBuffer ≡ save_step s a
    unfolding save_step
    short_refused = simp (lt-ltb (length a) record_room h)

    pub short_saved : a ≡ saved_over s a
    unfolding saved_over refused_of answer_of
    short_saved = rw (← short_refused)

  module _ (h : record_room ≤ length a) where
    pub full_saved : step_of s (plans saves) ≡ save_step s a
    unfolding save_step
    full_saved = simp (le-ltb (length a) record_room h)

    -- accepted: the columns, and behind them what stood there
    pub saved_accepted : (m : List ℕ) → is_ok (step_of s (plans saves)).answer.outcome ≡ true → m ≡ put_over 0 (columns_of s) a → m ≡ saved_over s a
    unfolding saved_over
    saved_accepted m e q =
        put_behind [] (columns_of s) a a m 0 refl (omega (arith, columns_count s, record_fits)) refl q ∙ rw (← full_saved, e)

    -- refused: what stood there
    pub saved_refused : is_ok (step_of s (plans saves)).answer.outcome ≡ false → a ≡ saved_over s a
    unfolding saved_over
    saved_refused e = rw (← full_saved, e)
