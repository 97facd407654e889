-- What the state is promised to be holds at every place of every list of calls, by line and by values, refused ones among them.
use Prim.Native.Nat.{ℕ, suc, ◌<◌, ◌≤◌}
use native.Mathlib.Omega.{arith}
use mathlib.Core.Bool.{true, cond}
use mathlib.Core.List.{List, [], ◌∷◌}
use mathlib.Core.Logic.{◌↔◌}
use mathlib.Core.Path.{◌≡◌, refl, sym, ap, ◌∙◌, subst}
use lib.Dec.{T, ltb}
use lib.ListN.{length, get_or}
use Rattle.std.specs.Prelude.{Option, None, Ok, Err, All}
use Rattle.std.specs.Result.{result_ok}
use Rattle.std.proofs.lemmas.Bool.{cond_both}
use Rattle.relay_fsm.specs.declared.Mode.{Mode}
use Rattle.relay_fsm.specs.Mode.{is_airborne_of}
use Rattle.relay_preflight.specs.Table.{outstanding_of}
use Rattle.relay_preflight.specs.Verdict.{first_blocker_of, no_blocker}
use Rattle.relay_preflight.proofs.Laws.{no_blocker_iff, outstanding_zero}
use Rattle.relay_batt.specs.Sound.{InBounds}
use Rattle.relay_batt.proofs.Sound.{sound_bounds}
use Rattle.falcon_state.specs.Point.{nowhere}
use Rattle.falcon_guidance.specs.Mission.{waypoint_admissible_of}
use Rattle.falcon_core.specs.declared.supervisor.Supervisor.{Supervisor}
use Rattle.falcon_core.specs.declared.supervisor.Answered.{Answered}
use Rattle.falcon_core.specs.Calls.{unopened, Request, refusal_of, after_of, refused_of, accepted_of}
use Rattle.falcon_core.specs.Answer.{answer_of, numbers_of}
use Rattle.falcon_core.specs.SoundState.{sound_supervisor_of, SoundFlight, FitFlight}
use Rattle.falcon_core.proofs.Refused.{step_keeps}
use Rattle.falcon_core.proofs.Invariant.{after_sound, unopened_sound}
use Rattle.falcon_core.proofs.SoundTest.{sound_test}
use Rattle.falcon_core.proofs.Battery.{OwnPack, after_pack, unopened_pack}
use Rattle.falcon_core.proofs.Due.{DueAirborne, after_due_airborne, due_unopened}
use Rattle.falcon_core.proofs.Fits.{fits_step, fits_unopened}
use Rattle.falcon_core.proofs.Numbers.{numbers_checks}
use Rattle.requests.specs.Kinds.{Asked, asked_step}
use Rattle.requests.specs.Parse.{line_asks}
use Rattle.requests.specs.ByLine.{need_of, buffered_line_asks, line_step}
use Rattle.requests.proofs.Buffer.{full_asks}
use Rattle.requests.proofs.Fits.{FitAsked, buffered_line_fits}
use Rattle.falcon_record.specs.Saved.{record_room}
use Rattle.call_lists.specs.Lists.{Call, by_values, by_line, by_array, call_asks, call_step, accepted, accepted_request, Place, place_after, next_place_of, place_from, place_at_of, first_place, FitCall}
use Rattle.call_lists.proofs.CallSeen.{Seen, refused, accepts, save_asked, seen}
use Rattle.call_lists.proofs.PlaceHolds.{place_holding, start_holding}

-- ---- by line or by values

-- a line that asks this, with the room that it needs, is the call by values
pub line_is_values :
    (s : Supervisor) (line out : List ℕ) (r : Request)
    → need_of line ≤ length out
    → line_asks line ≡ Ok r
    → (call_step s (by_line line out) ≡ call_step s (by_values r)) × (accepted_request s (by_line line out) ≡ accepted_request s (by_values r))
unfolding call_step accepted_request line_step
line_is_values s line out r h e =
    let k : buffered_line_asks line out ≡ Ok r = full_asks line out h ∙ e in
    (ap (asked_step s) k, ap (λ (a : Asked). cond (accepted (asked_step s a)) (result_ok a) None) k)

-- ---- what every accepted call keeps

module _ (P : Supervisor → Type 0) (keeps : (s : Supervisor) (r : Request) → P s → refusal_of s r ≡ None → P (after_of s r)) where
  asked_keeps : (s : Supervisor) (k : Asked) → P s → P (asked_step s k).supervisor
  unfolding refused_of
  asked_keeps s (Err n) h = h
  asked_keeps s (Ok r) h = step_keeps s r P h (keeps s r h)

  call_keeps : (s : Supervisor) (c : Call) → P s → P (call_step s c).supervisor
  unfolding call_step line_step
  call_keeps s (by_values r) h = asked_keeps s (Ok r) h
  call_keeps s (by_line line out) h = asked_keeps s (call_asks (by_line line out)) h
  call_keeps s (by_array a) h = rw (save_asked s a) (asked_keeps s (call_asks (by_array a)) h)

  -- holds at every further place
  pub place_keeps : (p : Place) (l : List Call) → P p.supervisor → P (place_from p l).supervisor
  unfolding place_from next_place_of place_after
  place_keeps p [] h = h
  place_keeps p (c ∷ l) h = place_keeps (next_place_of p c) l (call_keeps p.supervisor c h)

  -- and at every place, where it holds of the state with no opening
  pub every_place : P unopened → (l : List Call) → P (place_at_of l).supervisor
  unfolding first_place
  every_place h l = place_keeps first_place l h

-- ---- the promises

pub sound_flight : (l : List Call) → SoundFlight (place_at_of l).supervisor.flight (place_at_of l).supervisor.waypoints
sound_flight = every_place (λ (u : Supervisor). SoundFlight u.flight u.waypoints) after_sound unopened_sound

-- the state passes every test, with no word on the floats of the calls
pub sound_place : (l : List Call) → T (sound_supervisor_of (place_at_of l).supervisor)
sound_place l = sound_test (place_at_of l).supervisor (sound_flight l)

-- "Every point in use is admissible."
pub points_admissible :
    (l : List Call) (i : ℕ) →
    i < (place_at_of l).supervisor.flight.mission.wp_count →
    T (waypoint_admissible_of (place_at_of l).supervisor.flight.config (get_or (place_at_of l).supervisor.waypoints i nowhere))
points_admissible l i h = (sound_flight l).mission.places.fit i h

-- the estimator's configuration is what the opening's volts give for the state's own cell count
pub pack_place : (l : List Call) → OwnPack (place_at_of l).supervisor.flight
pack_place l = every_place (λ (u : Supervisor). OwnPack u.flight) after_pack unopened_pack l

-- "Bounds to be shown: charge 0..1, used 0..5000 mAh, estimated resistance 0.001..0.2"
pub battery_bounds : (l : List Call) → InBounds (place_at_of l).supervisor.flight.battery
battery_bounds l = sound_bounds _ _ _ (pack_place l).made (sound_flight l).battery

-- a due report finds the mode airborne
pub due_airborne : (l : List Call) → (place_at_of l).supervisor.report_due ≡ true → T (is_airborne_of (place_at_of l).mode)
due_airborne l d =
    subst (λ (m : Mode). T (is_airborne_of m)) (sym (place_holding first_place l start_holding).mode_is) (every_place DueAirborne after_due_airborne due_unopened l d)

-- ---- the floats of the state

fits_asked : (s : Supervisor) (k : Asked) → FitAsked k → FitFlight s.flight s.waypoints → FitFlight (asked_step s k).supervisor.flight (asked_step s k).supervisor.waypoints
unfolding refused_of
fits_asked s (Err n) l h = h
fits_asked s (Ok r) l h = fits_step s r l h

fits_call : (s : Supervisor) (c : Call) → FitCall c → FitFlight s.flight s.waypoints → FitFlight (call_step s c).supervisor.flight (call_step s c).supervisor.waypoints
unfolding call_step line_step
fits_call s (by_values r) l h = fits_step s r l h
fits_call s (by_line line out) l h = fits_asked s (buffered_line_asks line out) (buffered_line_fits line out) h
fits_call s (by_array a) l h = rw (save_asked s a) (fits_asked s (call_asks (by_array a)) (cond_both (ltb (length a) record_room) _ _ FitAsked (λ e. tt) (λ e. tt)) h)

fits_from : (p : Place) (l : List Call) → All FitCall l → FitFlight p.supervisor.flight p.supervisor.waypoints → FitFlight (place_from p l).supervisor.flight (place_from p l).supervisor.waypoints
unfolding place_from next_place_of place_after
fits_from p [] e h = h
fits_from p (c ∷ l) e h = fits_from (next_place_of p c) l (λ k d q. e (suc k) d (omega arith)) (fits_call p.supervisor c (e 0 c (omega arith)) h)

-- the floats of the state are f32 values where those lent are
pub fits_place : (l : List Call) → All FitCall l → FitFlight (place_at_of l).supervisor.flight (place_at_of l).supervisor.waypoints
unfolding first_place
fits_place l e = fits_from first_place l e fits_unopened

-- ---- the last two columns of every answer

-- the count and the blocker of an answer are those of the state after it
shown_checks : (s : Supervisor) (a : Answered) (k : Option Request) → Seen s a k
    → (a.answer.outstanding ≡ outstanding_of a.supervisor.flight.check_table) × (a.answer.blocker ≡ first_blocker_of a.supervisor.flight.check_table)
unfolding refused_of accepted_of answer_of
shown_checks s _ _ (refused n) = (refl, refl)
shown_checks s _ _ (accepts r e) = (refl, refl)

-- of the answer to a further call, column 9 is 0 exactly when column 10 is 21
pub none_outstanding : (l : List Call) (c : Call)
    → (get_or (numbers_of (call_step (place_at_of l).supervisor c).answer) 8 0 ≡ 0) ↔ (get_or (numbers_of (call_step (place_at_of l).supervisor c).answer) 9 0 ≡ no_blocker)
none_outstanding l c =
    let s = (place_at_of l).supervisor in
    let a = call_step s c in
    let shown = shown_checks s a (accepted_request s c) (seen s c) in
    let columns = numbers_checks a.answer in
    let sound = (call_keeps (λ (u : Supervisor). SoundFlight u.flight u.waypoints) after_sound s c (sound_flight l)).checks in
    let none = outstanding_zero a.supervisor.flight.check_table sound.required_below (omega (arith, sound.passed_below)) in
    let number = no_blocker_iff a.answer.blocker in (
      λ e. columns.1 ∙ number.1 (shown.1 ∙ none.0 (sym shown.0 ∙ sym columns.0 ∙ e)),
      λ e. columns.0 ∙ shown.0 ∙ none.1 (sym shown.1 ∙ number.0 (sym columns.1 ∙ e)),
    )
