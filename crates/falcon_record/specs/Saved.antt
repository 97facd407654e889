-- U2: what a call for the state writes, and the call by values with its array.
use Rattle.std.specs.Prelude.{ℕ, cond, List, ltb, length, is_ok}
use Rattle.columns.specs.Line.{over}
use Rattle.falcon_core.specs.declared.supervisor.Supervisor.{Supervisor}
use Rattle.falcon_core.specs.declared.supervisor.Answered.{Answered}
use Rattle.falcon_core.specs.Calls.{plans, saves, refused_of, step_of}
use Rattle.falcon_core.specs.declared.refusal.Refusal.TheVariants.{ShortBuffer}
use Rattle.falcon_record.specs.Form.{Form, opening_form, fields_of}
use Rattle.falcon_record.specs.Columns.{columns_in}

-- the form that is written
abbrev pub written_form : Form
written_form = opening_form

-- U2: "the columns of a line of kind 9", as they are written
unfoldable pub columns_of : Supervisor → List ℕ
columns_of s = columns_in written_form s

-- how many they are
abbrev pub record_fields : ℕ
record_fields = fields_of written_form

-- U2: "Such a line may have 160 fields": what a buffer or an array for it must have room for
abbrev pub record_room : ℕ
record_room = 160

-- the call by values, with the array that takes the columns: where that is too short it is 9, which comes first
unfoldable pub save_step : Supervisor → List ℕ → Answered
save_step s a = cond (ltb (length a) record_room) (refused_of s ShortBuffer) (step_of s (plans saves))

-- the array after it: the columns where it is accepted, and behind them, or where it is refused, what stood there
unfoldable pub saved_over : Supervisor → List ℕ → List ℕ
saved_over s a = cond (is_ok (save_step s a).answer.outcome) (over (columns_of s) a) a
