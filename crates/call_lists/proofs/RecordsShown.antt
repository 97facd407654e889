-- Wherever a list of calls asks for the state, it is had back from the columns told, and equal columns mean equal answers from then on.
use Prim.Native.Nat.{ℕ, ◌≤◌, ◌<◌, ◌^◌}
use mathlib.Core.Bool.{Bool, true, false, cond}
use mathlib.Core.List.{List, [], ◌∷◌, ◌++◌}
use mathlib.Core.Path.{◌≡◌, refl, sym, ap, ◌∙◌, subst}
use borrow.Author.Tests.{ltb-false}
use lib.Dec.{ltb, lit≤}
use lib.ListN.{length}
use Rattle.std.specs.Prelude.{Some, None, Ok, Err, All}
use Rattle.std.specs.Option.{option_map}
use Rattle.std.specs.Result.{result_ok}
use Rattle.columns.specs.Line.{InRange, line_of, over}
use Rattle.relay_math.specs.Small.{number_at}
use Rattle.falcon_state.specs.declared.config.Config.{Config}
use Rattle.falcon_state.specs.Config.{opening_number}
use Rattle.falcon_state.specs.Point.{max_waypoints}
use Rattle.falcon_totals.specs.declared.DayTotals.{DayTotals}
use Rattle.falcon_totals.specs.Totals.{totals_numbers}
use Rattle.falcon_core.specs.declared.supervisor.Supervisor.{Supervisor}
use Rattle.falcon_core.specs.declared.supervisor.Answered.{Answered}
use Rattle.falcon_core.specs.declared.answer.Output.TheVariants.{Record}
use Rattle.falcon_core.specs.Calls.{Request, plans, saves, accepted_of}
use Rattle.falcon_core.specs.Answer.{answer_of, numbers_of}
use Rattle.falcon_core.specs.declared.refusal.Refusal.TheVariants.{ShortBuffer}
use Rattle.falcon_core.proofs.Answers.{step_accepted, in_sequence, tells_state, told_output}
use Rattle.falcon_core.proofs.Refused.{accepted_passed, told_keeps}
use Rattle.falcon_record.specs.Form.{Form}
use Rattle.falcon_record.specs.Columns.{columns_in}
use Rattle.falcon_record.specs.From.{record_from}
use Rattle.falcon_record.specs.Kept.{Kept, Ready, carried_by}
use Rattle.falcon_record.specs.Saved.{written_form, columns_of, save_step, saved_over}
use Rattle.falcon_record.proofs.Back.{state_back, columns_same, opening_written}
use Rattle.falcon_record.proofs.Forms.{line_back, carries}
use Rattle.falcon_record.proofs.Saving.{record_fits}
use Rattle.falcon_record.proofs.Reached.{after_wind_below, unopened_wind_below, totals_below}
use Rattle.requests.specs.Kinds.{Asked, asked_step}
use Rattle.requests.specs.Parse.{line_asks}
use Rattle.requests.specs.ByLine.{need_of, buffered_line_asks, line_step, extra_of}
use Rattle.requests.proofs.ToldLines.{told_over}
use Rattle.call_lists.specs.Lists.{Call, by_values, by_line, by_array, call_asks, Place, accepted, accepted_request, call_step, place_after, next_place_of, answers_from, lent_after, lent_from, place_at_of, first_place, FitCall}
use Rattle.call_lists.specs.Records.{written_by, lent_with, ReadBack, RecordBack, WrittenAlike}
use Rattle.call_lists.proofs.CallSeen.{seen}
use Rattle.call_lists.proofs.ToldSeen.{Told, told_seen}
use Rattle.call_lists.proofs.PlaceHolds.{place_holding, start_holding}
use Rattle.call_lists.proofs.EveryPlace.{every_place, sound_flight, pack_place, fits_place}

-- ---- what the columns rest on, at every place

pub kept_place : (l : List Call) → All FitCall l → Kept (place_at_of l).supervisor
kept_place l e =
    record {
      fit = fits_place l e;
      sound = sound_flight l;
      pack = pack_place l;
      wind_below = every_place (λ (u : Supervisor). u.flight.counts.wind_count < 2 ^ 32) after_wind_below unopened_wind_below l;
      totals_below = subst (λ (t : DayTotals). InRange (totals_numbers t)) (sym (place_holding first_place l start_holding).totals_are) (totals_below (place_at_of l).counted);
    }

-- ---- an accepted call for the state

module _ (s : Supervisor) (c : Call) (e : accepted_request s c ≡ Some (plans saves)) where
  told : Told s saves (call_step s c)
  told = told_seen s saves _ _ (seen s c) e

  saved_ready : Ready s
  saved_ready =
      let q = in_sequence s.opened s.report_due (accepted_passed s (plans saves) told.fits).in_sequence in
      record { opened = q.0; none_due = q.1 }

  -- it keeps the state
  saved_keeps : (call_step s c).supervisor ≡ s
  saved_keeps = ap (λ (a : Answered). a.supervisor) told.is ∙ told_keeps s saves Record tells_state

  saved_output : (call_step s c).answer.outcome ≡ Ok Record
  unfolding accepted_of answer_of
  saved_output =
      ap (λ (a : Answered). a.answer.outcome) (told.is ∙ step_accepted s (plans saves) told.fits) ∙ ap Ok (told_output s saves Record tells_state)

  -- and writes its columns
  pub saved_columns : written_by s c ≡ columns_of s
  unfolding extra_of
  saved_columns = λ i. extra_of (saved_keeps i) (saved_output i)

-- ---- where the columns stand

-- what is accepted was asked
accepted_asked : (b : Bool) (k : Asked) (r : Request) → cond b (result_ok k) None ≡ Some r → (b ≡ true) × (k ≡ Ok r)
accepted_asked false k r e = cc
accepted_asked true (Err n) r e = cc
accepted_asked true (Ok x) r e = (refl, (cc))

-- and with room
asked_room : (line out : List ℕ) (r : Request) → buffered_line_asks line out ≡ Ok r → (line_asks line ≡ Ok r) × (need_of line ≤ length out)
unfolding buffered_line_asks
asked_room line out r e = go (ltb (length out) (need_of line)) refl e
  where
    go : (b : Bool) → ltb (length out) (need_of line) ≡ b → cond b (Err ShortBuffer) (line_asks line) ≡ Ok r → (line_asks line ≡ Ok r) × (need_of line ≤ length out)
    go true q h = cc
    go false q h = (h, ltb-false (length out) (need_of line) q)

columns_lent : (s : Supervisor) (c : Call) → accepted_request s c ≡ Some (plans saves) → lent_after s c ≡ lent_with c (call_step s c).answer (columns_of s)
unfolding lent_after lent_with accepted_request call_step line_step saved_over extra_of
columns_lent s (by_values r) e = refl
columns_lent s (by_line line out) e =
    let k = accepted_asked (accepted (line_step s line out)) (buffered_line_asks line out) (plans saves) e in
    let room = asked_room line out (plans saves) k.1 in
    told_over s saves Record tells_state (told s (by_line line out) e).fits line out room.0 room.1
    ∙ ap (λ (q : Asked). over (line_of (numbers_of (asked_step s q).answer) ++ line_of (columns_of s)) out) (sym k.1)
columns_lent s (by_array a) e = rw (accepted_asked (accepted (save_step s a)) (call_asks (by_array a)) (plans saves) e).0

pub record_had_back : RecordBack
unfolding columns_of
record_had_back here c e q =
    let s = (place_at_of here).supervisor in
    let k = kept_place here e in
    let back : (form : Form) → max_waypoints ≤ form.places → record_from form (columns_in form s) ≡ carried_by form s = λ form h. state_back form s k (saved_ready s c q) (carries form s h k) in
    subst (ReadBack s c) (sym (saved_columns s c q))
    (record { lent = columns_lent s c q; line = line_back written_form s _ k record_fits; state = back written_form (lit≤ tt); forms = back })

-- U5: "Kind 9 records which opening was used": wherever in a list a call for the state is accepted, by line or by values, the last column is the number of
-- the latest accepted opening's kind, which the place has
pub opening_recorded :
    (here : List Call) (c : Call) →
    let p = place_at_of here in
    accepted_request p.supervisor c ≡ Some (plans saves) →
    option_map (λ (o : Config). opening_number o.opening_kind) p.config ≡ Some (number_at (written_by p.supervisor c) 135)
opening_recorded here c q =
    let s = (place_at_of here).supervisor in
    ap (option_map (λ (o : Config). opening_number o.opening_kind))
    ((place_holding first_place here start_holding).config_is ∙ ap (λ (b : Bool). cond b (Some s.flight.config) None) (saved_ready s c q).opened)
    ∙ ap Some (sym (ap (λ (l : List ℕ). number_at l 135) (saved_columns s c q) ∙ opening_written s))

-- ---- equal columns

-- from one state every list is answered alike
answers_same : (l : List Call) (p q : Place) → p.supervisor ≡ q.supervisor → (answers_from p l ≡ answers_from q l) × (lent_from p l ≡ lent_from q l)
unfolding answers_from lent_from next_place_of place_after
answers_same [] p q e = (refl, refl)
answers_same (c ∷ l) p q e =
    let rest = answers_same l (next_place_of p c) (next_place_of q c) (λ i. (call_step (e i) c).supervisor) in
    ((λ i. call_step (e i) c ∷ rest.0 i), (λ i. lent_after (e i) c ∷ rest.1 i))

pub written_same : WrittenAlike
unfolding next_place_of place_after columns_of
written_same here there c d e f p q same later =
    let s = (place_at_of here).supervisor in
    let u = (place_at_of there).supervisor in
    let k = kept_place here e in
    let m = kept_place there f in
    let one : s ≡ u = columns_same written_form s u k m (saved_ready s c p) (saved_ready u d q) (carries written_form s (lit≤ tt) k) (carries written_form u (lit≤ tt) m) (sym (saved_columns s c p) ∙ same ∙ saved_columns u d q) in
    answers_same later (next_place_of (place_at_of here) c) (next_place_of (place_at_of there) d) (saved_keeps s c p ∙ one ∙ sym (saved_keeps u d q))
