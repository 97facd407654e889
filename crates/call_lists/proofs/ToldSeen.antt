-- What an accepted call for the totals or for the state tells, by line and by values.
use mathlib.Core.List.{◌++◌}
use mathlib.Core.Path.{◌≡◌, sym, ap, ◌∙◌, subst}
use Rattle.std.specs.Prelude.{Option, Some, None, Ok}
use Rattle.falcon_core.specs.declared.supervisor.Supervisor.{Supervisor}
use Rattle.falcon_core.specs.declared.supervisor.Answered.{Answered}
use Rattle.falcon_core.specs.declared.answer.Output.{Output}
use Rattle.falcon_core.specs.Calls.{Request, Planning, plans, refusal_of, step_of}
use Rattle.falcon_core.specs.Answer.{numbers_of}
use Rattle.falcon_core.proofs.Answers.{step_accepted, Telling}
use Rattle.requests.specs.ByLine.{extra_of, reply_numbers}
use Rattle.requests.proofs.ToldLines.{told_numbers}
use Rattle.call_lists.proofs.CallSeen.{Seen, refused, accepts}

-- the call was accepted as the call by values would be
pub record Told (s : Supervisor) (p : Planning) (a : Answered) : Type 0 where
  pub fits : refusal_of s (plans p) ≡ None
  pub is : a ≡ step_of s (plans p)

pub told_seen : (s : Supervisor) (p : Planning) (a : Answered) (k : Option Request) → Seen s a k → k ≡ Some (plans p) → Told s p a
told_seen s p _ _ (refused n) e = cc
told_seen s p _ _ (accepts r q) e =
    let x : r ≡ plans p = cc in
    record { fits = ap (refusal_of s) (sym x) ∙ q; is = sym (ap (step_of s) (sym x) ∙ step_accepted s r q) }

-- its answer has what it asks for behind its ten numbers
pub shown_seen : (s : Supervisor) (p : Planning) (o : Output) → Telling p o → (a : Answered) (k : Option Request) → Seen s a k → k ≡ Some (plans p)
    → reply_numbers a ≡ numbers_of a.answer ++ extra_of s (Ok o)
shown_seen s p o t a k h e =
    let told = told_seen s p a k h e in
    subst (λ (x : Answered). reply_numbers x ≡ numbers_of x.answer ++ extra_of s (Ok o)) (sym told.is) (told_numbers s p o t told.fits)
