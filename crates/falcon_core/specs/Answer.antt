-- The answer to a call: what it tells, and its ten numbers.
use Rattle.std.specs.Prelude.{ℕ, Bool, true, false, List, [], ◌∷◌, ◌++◌, Result, Ok, Err}
use Rattle.relay_math.specs.Small.{flag_number, bits}
use Rattle.relay_fsm.specs.Mode.{mode_number}
use Rattle.relay_preflight.specs.Table.{outstanding_of}
use Rattle.relay_preflight.specs.Verdict.{first_blocker_of, blocker_number}
use Rattle.falcon_state.specs.declared.flight.FlightSupervisor.{FlightSupervisor}
use Rattle.falcon_tick.specs.declared.tick.TickAnswer.TheVariants.{MotorsOff, Setpoint}
use Rattle.falcon_core.specs.declared.refusal.Refusal.{Refusal}
use Rattle.falcon_core.specs.declared.answer.Output.{Output}
use Rattle.falcon_core.specs.declared.answer.Output.TheVariants.{Nothing, Ticks}
use Rattle.falcon_core.specs.declared.answer.Answer.{Answer}
use Rattle.falcon_core.specs.Refusals.{outcome_number}

-- an accepted tick's answer
abbrev pub is_tick_of : Output → Bool
is_tick_of (Ticks answer) = true
is_tick_of out = false

-- a report is due "after every tick that doesn't say motors off", and after nothing else
abbrev pub report_due_after : Output → Bool
report_due_after (Ticks (Setpoint ned landing rearm)) = true
report_due_after out = false

-- "the mode as it is", and "the last two fields as they are"
unfoldable pub answer_of : FlightSupervisor → Result Output Refusal → Answer
answer_of f outcome =
    record {
      outcome = outcome;
      mode = f.fsm.mode;
      outstanding = outstanding_of f.check_table;
      blocker = first_blocker_of f.check_table;
    }

-- "Fields 3 to 8 are 0 save for an accepted tick; motors off gives setpoint 0": landing, motors off, rearm, setpoint
abbrev pub output_numbers : Output → List ℕ
output_numbers (Ticks MotorsOff) = 0 ∷ 1 ∷ 0 ∷ 0 ∷ 0 ∷ 0 ∷ []
output_numbers (Ticks (Setpoint ned landing rearm)) =
    flag_number landing ∷ 0 ∷ flag_number rearm ∷ bits ned.x ∷ bits ned.y ∷ bits ned.z ∷ []
output_numbers out = 0 ∷ 0 ∷ 0 ∷ 0 ∷ 0 ∷ 0 ∷ []

-- those of an outcome
abbrev pub outcome_numbers : Result Output Refusal → List ℕ
outcome_numbers (Ok out) = output_numbers out
outcome_numbers (Err refusal) = output_numbers Nothing

-- "Answer, ten fields"
abbrev pub answer_fields : ℕ
answer_fields = 10

-- "refusal, mode, landing, motors off, rearm, setpoint (three), outstanding, first blocker (21 if none)"
unfoldable pub numbers_of : Answer → List ℕ
numbers_of a =
    outcome_number a.outcome
    ∷ mode_number a.mode
    ∷ (outcome_numbers a.outcome ++ (a.outstanding ∷ blocker_number a.blocker ∷ []))
