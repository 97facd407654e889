-- An answer has ten numbers, the first is 0 where the call is accepted, and the last two are the outstanding checks and the first blocker.
use Prim.Native.Nat.{ℕ}
use mathlib.Core.List.{List, [], ◌∷◌, ◌++◌}
use mathlib.Core.Path.{◌≡◌, refl}
use lib.ListN.{length, get_or, length-append}
use lib.Seq.{get_or-append-add}
use Rattle.std.specs.Prelude.{eqb, Result, Ok, Err, is_ok}
use Rattle.relay_fsm.specs.Mode.{mode_number}
use Rattle.relay_preflight.specs.Verdict.{blocker_number}
use Rattle.falcon_core.specs.declared.answer.Answer.{Answer}
use Rattle.falcon_core.specs.declared.answer.Output.{Output}
use Rattle.falcon_core.specs.declared.answer.Output.TheVariants.{Ticks}
use Rattle.falcon_tick.specs.declared.tick.TickAnswer.TheVariants.{MotorsOff}
use Rattle.falcon_core.specs.declared.refusal.Refusal.{Refusal}
use Rattle.falcon_core.specs.declared.refusal.Refusal.TheVariants.{ShortBuffer, NotALine, UnknownKind, WrongCount, OutOfRange, NoOpening, ReportDue, NoReportDue, Inadmissible}
use Rattle.falcon_core.specs.Refusals.{outcome_number}
use Rattle.falcon_core.specs.Answer.{answer_fields, output_numbers, outcome_numbers, numbers_of}

-- an output has six, and so has an outcome
output_count : (o : Output) → length (output_numbers o) ≡ 6
output_count (Ticks MotorsOff) = refl
output_count out = refl

outcome_count : (o : Result Output Refusal) → length (outcome_numbers o) ≡ 6
outcome_count (Ok out) = output_count out
outcome_count (Err e) = refl

-- "Accepted means that the refusal answered is 0."
pub accepted_zero : (o : Result Output Refusal) → eqb (outcome_number o) 0 ≡ is_ok o
accepted_zero (Ok out) = refl
accepted_zero (Err ShortBuffer) = refl
accepted_zero (Err NotALine) = refl
accepted_zero (Err UnknownKind) = refl
accepted_zero (Err WrongCount) = refl
accepted_zero (Err OutOfRange) = refl
accepted_zero (Err NoOpening) = refl
accepted_zero (Err ReportDue) = refl
accepted_zero (Err NoReportDue) = refl
accepted_zero (Err Inadmissible) = refl

pub numbers_count : (a : Answer) → length (numbers_of a) ≡ answer_fields
unfolding numbers_of
numbers_count a = simp (length-append, outcome_count)

-- what stands behind two numbers and six
behind : (l : List ℕ) (n m x y : ℕ) → length l ≡ 6 → (get_or (n ∷ m ∷ (l ++ (x ∷ y ∷ []))) 8 0 ≡ x) × (get_or (n ∷ m ∷ (l ++ (x ∷ y ∷ []))) 9 0 ≡ y)
behind l n m x y e = (rw e at (get_or-append-add l (x ∷ y ∷ []) 0 0), rw e at (get_or-append-add l (x ∷ y ∷ []) 1 0))

-- columns 9 and 10: the outstanding checks and the first blocker
pub numbers_checks : (a : Answer) → (get_or (numbers_of a) 8 0 ≡ a.outstanding) × (get_or (numbers_of a) 9 0 ≡ blocker_number a.blocker)
unfolding numbers_of
numbers_checks a = behind (outcome_numbers a.outcome) (outcome_number a.outcome) (mode_number a.mode) _ _ (outcome_count a.outcome)
