-- A call by line: the state, the refusal and the whole buffer after it.
use Rattle.std.specs.Prelude.{ℕ, ◌+◌, ◌*◌, cond, List, [], ◌++◌, eqb, ltb, length, drop, Option, Some, None, Result, Ok, Err}
use Rattle.falcon_core.specs.declared.supervisor.Supervisor.{Supervisor}
use Rattle.falcon_core.specs.declared.supervisor.Answered.{Answered}
use Rattle.falcon_core.specs.declared.answer.Output.{Output}
use Rattle.falcon_core.specs.declared.answer.Output.TheVariants.{Nothing, Ticks, Totals, Record}
use Rattle.falcon_core.specs.Answer.{answer_fields, numbers_of}
use Rattle.falcon_core.specs.declared.refusal.Refusal.{Refusal}
use Rattle.falcon_core.specs.declared.refusal.Refusal.TheVariants.{ShortBuffer}
use Rattle.columns.specs.Field.{field_width, kind_of}
use Rattle.columns.specs.Line.{line_of}
use Rattle.falcon_totals.specs.Totals.{totals_count, totals_numbers}
use Rattle.falcon_record.specs.Saved.{record_room, columns_of}
use Rattle.requests.specs.Kinds.{Asked, asked_step, totals_kind, saves_kind}
use Rattle.requests.specs.Parse.{line_asks}

-- U1: "the ordinary ten fields and then the nine totals"
abbrev pub totals_answer : ℕ
totals_answer = answer_fields + totals_count

-- U2: "on the same line after its ordinary answer", a line that "may have 160 fields"
abbrev pub record_need : ℕ
record_need = answer_fields + record_room

-- how many fields an answer buffer must have room for, by the line's kind. U1: "a buffer under 209 bytes for kind 7"; U2: "a buffer under 1,870 bytes for
-- kind 8"
unfoldable pub need_fields_of : Option ℕ → ℕ
need_fields_of (Some n) = cond (eqb n totals_kind) totals_answer (cond (eqb n saves_kind) record_need answer_fields)
need_fields_of None = answer_fields

-- the most fields that an answer buffer must have room for; no line has more
abbrev pub most_needed : ℕ
most_needed = record_need

-- the bytes that a line's answer buffer must have
unfoldable pub need_of : List ℕ → ℕ
need_of line = field_width * need_fields_of (kind_of line)

-- what a call by line asks, with its answer buffer: 9 comes first
unfoldable pub buffered_line_asks : List ℕ → List ℕ → Asked
buffered_line_asks line out = cond (ltb (length out) (need_of line)) (Err ShortBuffer) (line_asks line)

-- the answer to a call by line
unfoldable pub line_step : Supervisor → List ℕ → List ℕ → Answered
line_step s line out = asked_step s (buffered_line_asks line out)

-- the numbers of an answer behind its ten fields, with the state after it: a refusal has none
unfoldable pub extra_of : Supervisor → Result Output Refusal → List ℕ
extra_of s (Ok Nothing) = []
extra_of s (Ok (Ticks t)) = []
extra_of s (Ok Totals) = totals_numbers s.totals
extra_of s (Ok Record) = columns_of s
extra_of s (Err e) = []

-- the numbers of an answer
unfoldable pub reply_numbers : Answered → List ℕ
reply_numbers a = numbers_of a.answer ++ extra_of a.supervisor a.answer.outcome

-- and as bytes
unfoldable pub reply_of : Answered → List ℕ
reply_of a = line_of (reply_numbers a)

-- "answer buffer under 110 bytes; nothing written", 209 for kind 7 and 1,870 for kind 8; else the answer's fields, and the bytes behind them "are untouched"
unfoldable pub buffer_after : Supervisor → List ℕ → List ℕ → List ℕ
buffer_after s line out =
    cond (ltb (length out) (need_of line)) out (reply_of (line_step s line out) ++ drop (length (reply_of (line_step s line out))) out)
