-- What `answer` gives back, and what a line leaves: the state after it, and the numbers of its answer.
use Rattle.std.specs.Prelude.{ℕ, ◌≤◌, ◌≡◌, List, length, take, Result, Ok, Err}
use Rattle.falcon_core.specs.declared.supervisor.Supervisor.{Supervisor}
use Rattle.falcon_core.specs.declared.supervisor.Answered.{Answered}
use Rattle.falcon_core.specs.declared.answer.Output.{Output}
use Rattle.falcon_core.specs.declared.refusal.Refusal.{Refusal}
use Rattle.requests.specs.ByLine.{reply_numbers}
use Rattle.sheet.specs.declared.entry.LineAnswered.{LineAnswered}

-- an outcome without what it tells
abbrev pub outcome_alone : Result Output Refusal → Result Unit Refusal
outcome_alone (Ok out) = Ok tt
outcome_alone (Err refusal) = Err refusal

-- the state after a line, and its refusal
abbrev pub line_answered : Answered → LineAnswered
line_answered a = record { supervisor = a.supervisor; outcome = outcome_alone a.answer.outcome }

-- the state is that after the answer, whose numbers are the first of these, so many
pub record Replied (a : Answered) (s : Supervisor) (ns : List ℕ) (count : ℕ) : Type 0 where
  pub state : s ≡ a.supervisor
  pub numbers : take count ns ≡ reply_numbers a
  pub among : count ≤ length ns
