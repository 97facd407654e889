-- What holds of every refusal and of what each kind of line may ask holds of what the numbers of a line ask.
use Prim.Native.Nat.{ℕ}
use mathlib.Core.Bool.{Bool, ◌&&◌}
use mathlib.Core.List.{List}
use mathlib.Core.Path.{◌≡◌}
use lib.Ieee.{Float}
use Rattle.std.proofs.lemmas.Bool.{cond_both, eqb-true}
use lib.Dec.{eqb}
use lib.ListN.{length}
use Rattle.std.specs.Prelude.{Option, Some, None, Ok, Err}
use Rattle.relay_fsm.specs.declared.Event.{Event}
use Rattle.relay_fsm.specs.Event.{event_at}
use Rattle.falcon_state.specs.declared.config.OpeningKind.{OpeningKind}
use Rattle.falcon_state.specs.declared.config.OpeningKind.TheVariants.{Ground, Raised}
use Rattle.falcon_state.specs.Config.{opening_number}
use Rattle.falcon_state.specs.Point.{point_numbers_of}
use Rattle.falcon_state.specs.Zone.{zone_numbers_of}
use Rattle.falcon_core.specs.declared.refusal.Refusal.{Refusal}
use Rattle.falcon_core.specs.declared.refusal.Refusal.TheVariants.{UnknownKind, WrongCount, OutOfRange}
use Rattle.falcon_core.specs.Calls.{Planning, opens, ticks, reports, commands, plans, points, zones, totals, saves}
use Rattle.relay_math.specs.Small.{number_at, flag_at}
use Rattle.requests.specs.declared.kinds.Kind.{Kind}
use Rattle.requests.specs.Kinds.{Asked, is_flag_of, fielded, opening_from_of, opening_line_of, tick_from_of, tick_ok_of, tick_line_of, report_line_of, command_with, command_line_of, is_list_of, list_floats_of, list_line_of, points_line_of, zones_line_of, totals_kind, saves_kind, alone_line_of, kind_at, kind_line_of, numbers_ask}

module _ (P : Asked → Type 0) (refused : (e : Refusal) → P (Err e)) (ns : List ℕ) where
  fielded_keeps : (count : ℕ) (ranges : Bool) (k : Asked) → P k → P (fielded ns count ranges k)
  fielded_keeps count ranges k h = cond_both (eqb (length ns) count) _ _ P (λ e. cond_both ranges _ _ P (λ q. h) (λ q. refused OutOfRange)) (λ e. refused WrongCount)

  command_keeps : (found : Option Event) → ((ev : Event) → P (Ok (commands ev (flag_at ns 2) (flag_at ns 3)))) → P (command_with found (flag_at ns 2) (flag_at ns 3))
  command_keeps (Some ev) h = h ev
  command_keeps None h = refused OutOfRange

  list_keeps : (width : ℕ) (list : List Float → Planning) → P (Ok (plans (list (list_floats_of ns)))) → P (list_line_of width list ns)
  list_keeps width list h = cond_both (is_list_of width ns) _ _ P (λ e. h) (λ e. refused WrongCount)

  alone_keeps : (k : Asked) → P k → P (alone_line_of ns k)
  unfolding alone_line_of
  alone_keeps k h = cond_both (eqb (length ns) 1) _ _ P (λ e. h) (λ e. refused WrongCount)

  pub numbers_ask_keeps :
      ((kind : OpeningKind) → P (Ok (opens (opening_from_of kind ns)))) →
      P (Ok (ticks (tick_from_of ns))) →
      P (Ok (reports (flag_at ns 1))) →
      ((ev : Event) → P (Ok (commands ev (flag_at ns 2) (flag_at ns 3)))) →
      P (Ok (plans (points (list_floats_of ns)))) →
      P (Ok (plans (zones (list_floats_of ns)))) →
      (number_at ns 0 ≡ totals_kind → P (Ok (plans totals))) →
      (number_at ns 0 ≡ saves_kind → P (Ok (plans saves))) →
      P (numbers_ask ns)
  unfolding numbers_ask kind_at opening_line_of tick_line_of report_line_of command_line_of points_line_of zones_line_of
  numbers_ask_keeps o t r c p z d v =
      let n = number_at ns 0 in
      let Keeps : Option Kind → Type 0 = λ k. P (kind_line_of k ns) in
      cond_both (eqb n (opening_number Ground)) _ _ Keeps (λ e. fielded_keeps 10 (is_flag_of ns 9) _ (o Ground))
      (λ e. cond_both (eqb n 2) _ _ Keeps (λ e. fielded_keeps 18 (tick_ok_of ns) _ t)
      (λ e. cond_both (eqb n 3) _ _ Keeps (λ e. fielded_keeps 2 (is_flag_of ns 1) _ r)
      (λ e. cond_both (eqb n 4) _ _ Keeps (λ e. fielded_keeps 4 (is_flag_of ns 2 && is_flag_of ns 3) _ (command_keeps (event_at (number_at ns 1)) c))
      (λ e. cond_both (eqb n 5) _ _ Keeps (λ e. list_keeps point_numbers_of points p)
      (λ e. cond_both (eqb n 6) _ _ Keeps (λ e. list_keeps zone_numbers_of zones z)
      (λ e. cond_both (eqb n totals_kind) _ _ Keeps (λ e. alone_keeps _ (d (eqb-true n totals_kind e)))
      (λ e. cond_both (eqb n saves_kind) _ _ Keeps (λ e. alone_keeps _ (v (eqb-true n saves_kind e)))
      (λ e. cond_both (eqb n (opening_number Raised)) _ _ Keeps (λ e. fielded_keeps 10 (is_flag_of ns 9) _ (o Raised)) (λ e. refused UnknownKind)))))))))
