-- U2: the claims about every list of calls, that the state is had back from its columns and that equal columns mean equal answers from then on.
use Rattle.std.specs.Prelude.{ℕ, ◌≤◌, List, [], ◌++◌, All, ◌≡◌, Some}
use Rattle.columns.specs.Line.{read_within, line_of, over}
use Rattle.falcon_state.specs.Point.{max_waypoints}
use Rattle.falcon_core.specs.declared.supervisor.Supervisor.{Supervisor}
use Rattle.falcon_core.specs.declared.answer.Answer.{Answer}
use Rattle.falcon_core.specs.Calls.{plans, saves}
use Rattle.falcon_core.specs.Answer.{numbers_of}
use Rattle.falcon_record.specs.Form.{Form}
use Rattle.falcon_record.specs.Columns.{columns_in}
use Rattle.falcon_record.specs.From.{record_from}
use Rattle.falcon_record.specs.Kept.{carried_by}
use Rattle.falcon_record.specs.Saved.{written_form, record_room}
use Rattle.requests.specs.ByLine.{extra_of}
use Rattle.call_lists.specs.Lists.{Call, by_values, by_line, by_array, accepted_request, call_step, lent_after, next_place_of, answers_from, lent_from, place_at_of, FitCall}

-- the columns of an accepted call for the state
abbrev pub written_by : Supervisor → Call → List ℕ
written_by s c = extra_of (call_step s c).supervisor (call_step s c).answer.outcome

-- the memory lent for writing with these columns: by line, U2: "on the same line after its ordinary answer", a line of kind 9 as it stands; by values at the
-- array's start. U2: "Bytes after it are untouched"
unfoldable pub lent_with : Call → Answer → List ℕ → List ℕ
lent_with (by_values r) answer columns = []
lent_with (by_line line out) answer columns = over (line_of (numbers_of answer) ++ line_of columns) out
lent_with (by_array a) answer columns = over columns a

-- the columns stand in the memory lent for writing, their line has at most 160 fields and is read as these numbers, and the state is had back from them, and
-- from the columns of every form that has a place for each point, with opening 1 where the form has no column for the opening's kind
pub record ReadBack (s : Supervisor) (c : Call) (columns : List ℕ) : Type 0 where
  pub lent : lent_after s c ≡ lent_with c (call_step s c).answer columns
  pub line : read_within record_room (line_of columns) ≡ Some columns
  pub state : record_from written_form columns ≡ s
  pub forms : (form : Form) → max_waypoints ≤ form.places → record_from form (columns_in form s) ≡ carried_by form s

-- wherever in a list a call for the state is accepted
abbrev pub RecordBack : Type 0
RecordBack =
    (here : List Call) (c : Call) →
    All FitCall here →
    let s = (place_at_of here).supervisor in
    accepted_request s c ≡ Some (plans saves) →
    ReadBack s c (written_by s c)

-- U2: "two shuttles that write the same columns answer every later list of calls alike": answers, states and all memory lent for writing
abbrev pub WrittenAlike : Type 0
WrittenAlike =
    (here there : List Call) (c d : Call) →
    All FitCall here →
    All FitCall there →
    let s = (place_at_of here).supervisor in
    let u = (place_at_of there).supervisor in
    accepted_request s c ≡ Some (plans saves) →
    accepted_request u d ≡ Some (plans saves) →
    written_by s c ≡ written_by u d →
    (later : List Call) →
    (answers_from (next_place_of (place_at_of here) c) later ≡ answers_from (next_place_of (place_at_of there) d) later)
    × (lent_from (next_place_of (place_at_of here) c) later ≡ lent_from (next_place_of (place_at_of there) d) later)
