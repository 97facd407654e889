-- Document 01's table of refusals: their numbers, in the order in which they are tried, and 0 for what is accepted.
use Rattle.std.specs.Prelude.{ℕ, Result, Ok, Err}
use Rattle.falcon_core.specs.declared.refusal.Refusal.{Refusal}
use Rattle.falcon_core.specs.declared.refusal.Refusal.TheVariants.{ShortBuffer, NotALine, UnknownKind, WrongCount, OutOfRange, NoOpening, ReportDue, NoReportDue, Inadmissible}

-- 9: "answer buffer under 110 bytes; nothing written"
-- 2: "length 0, no multiple of 11, over 1,430, or a bad field"
-- 3: "kind not 1..6"; U1: "Refusal 3 no longer fits a kind from the request on that takes lines of it"
-- 4: "field count wrong; lent points not 3 each, zones not 4 each"
-- 5: "event above 11, flag above 1, battery above 2, mask of 2^21 or more, absent volts or amps not 0"
-- 1: "no opening yet"; from here on a refusal needs the state
-- 6: "a report is due, and the call is no report or opening"
-- 7: "a report, none due"
-- 8: "a tried point inadmissible"
abbrev pub refusal_number : Refusal → ℕ
refusal_number ShortBuffer = 9
refusal_number NotALine = 2
refusal_number UnknownKind = 3
refusal_number WrongCount = 4
refusal_number OutOfRange = 5
refusal_number NoOpening = 1
refusal_number ReportDue = 6
refusal_number NoReportDue = 7
refusal_number Inadmissible = 8

-- "Accepted means that the refusal answered is 0."
abbrev pub outcome_number : {T : Type 0} → Result T Refusal → ℕ
outcome_number (Ok x) = 0
outcome_number (Err refusal) = refusal_number refusal
