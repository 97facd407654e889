-- A call is refused and keeps the state, or it is accepted for what it asks.
use Prim.Native.Nat.{ℕ}
use mathlib.Core.Bool.{Bool, true, false, cond}
use mathlib.Core.List.{List}
use mathlib.Core.Path.{◌≡◌, refl}
use lib.Dec.{ltb}
use lib.ListN.{length}
use Rattle.std.specs.Prelude.{Option, Some, None, Ok, Err}
use Rattle.std.specs.Result.{result_ok}
use Rattle.falcon_core.specs.declared.supervisor.Supervisor.{Supervisor}
use Rattle.falcon_core.specs.declared.supervisor.Answered.{Answered}
use Rattle.falcon_core.specs.declared.refusal.Refusal.{Refusal}
use Rattle.falcon_core.specs.declared.refusal.Refusal.TheVariants.{ShortBuffer}
use Rattle.falcon_core.specs.Calls.{Request, plans, saves, refusal_of, legs_in, after_of, output_of, refused_of, accepted_of, step_of}
use Rattle.falcon_core.specs.Answer.{answer_of}
use Rattle.falcon_core.proofs.Answers.{step_refused, step_accepted}
use Rattle.falcon_record.specs.Saved.{record_room, save_step}
use Rattle.requests.specs.Kinds.{Asked, asked_step}
use Rattle.requests.specs.ByLine.{line_step}
use Rattle.call_lists.specs.Lists.{Call, by_values, by_line, by_array, call_asks, call_step, accepted, accepted_request}

-- the answer to a call, and what it accepted
pub data Seen (s : Supervisor) : Answered → Option Request → Type 0 where
  refused : (e : Refusal) → Seen s (refused_of s e) None
  accepts : (r : Request) → refusal_of s r ≡ None → Seen s (accepted_of (after_of s r) (output_of s.flight (legs_in s) r)) (Some r)

seen_by : (s : Supervisor) (r : Request) (o : Option Refusal) → refusal_of s r ≡ o → Seen s (step_of s r) (cond (accepted (step_of s r)) (Some r) None)
unfolding refused_of accepted_of answer_of
seen_by s r None e = rw (step_accepted s r e) (accepts r e)
seen_by s r (Some n) e = rw (step_refused s r n e) (refused n)

seen_asked : (s : Supervisor) (k : Asked) → Seen s (asked_step s k) (cond (accepted (asked_step s k)) (result_ok k) None)
unfolding refused_of answer_of
seen_asked s (Err e) = refused e
seen_asked s (Ok r) = seen_by s r (refusal_of s r) refl

-- the state by values, with its array, is the call that it asks
pub save_asked : (s : Supervisor) (a : List ℕ) → save_step s a ≡ asked_step s (call_asks (by_array a))
unfolding save_step
save_asked s a = go (ltb (length a) record_room)
  where
    go : (b : Bool) → cond b (refused_of s ShortBuffer) (step_of s (plans saves)) ≡ asked_step s (cond b (Err ShortBuffer) (Ok (plans saves)))
    go true = refl
    go false = refl

pub seen : (s : Supervisor) (c : Call) → Seen s (call_step s c) (accepted_request s c)
unfolding call_step accepted_request line_step
seen s (by_values r) = seen_asked s (Ok r)
seen s (by_line line out) = seen_asked s (call_asks (by_line line out))
seen s (by_array a) = rw (save_asked s a) (seen_asked s (call_asks (by_array a)))
