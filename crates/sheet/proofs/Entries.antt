-- What a line leaves is the state after what it asks, and the numbers of that answer at the front of an array.
use Rattle.std.proofs.Common.{ℕ, ◌+◌, ◌≤◌, arith, append_assoc, length-append, ◌≡◌, Bool, List, [], ◌++◌, length, take, refl, sym, ap, ◌∙◌}
use Rattle.std.specs.Prelude.{Option, Some, None, Result, Ok, Err, MatchResult, IsOkAnd}
use Rattle.std.specs.Option.{option_map_or}
use Rattle.std.proofs.Math.Seq.{take-append_seam}
use Rattle.relay_fsm.specs.declared.Event.{Event}
use Rattle.falcon_state.specs.declared.point.Point.{Point}
use Rattle.falcon_state.specs.declared.mission.Legs.{Legs}
use Rattle.falcon_core.specs.declared.refusal.Refusal.{Refusal}
use Rattle.falcon_core.specs.declared.supervisor.Supervisor.{Supervisor}
use Rattle.falcon_core.specs.declared.answer.Answer.{Answer}
use Rattle.falcon_core.specs.declared.answer.Output.{Output}
use Rattle.falcon_core.specs.declared.answer.Output.TheVariants.{Nothing, Ticks as TickOutput, Totals, Record}
use Rattle.falcon_core.specs.declared.supervisor.Answered.{Answered}
use Rattle.falcon_core.specs.declared.flown.Flown.{Flown}
use Rattle.falcon_core.specs.declared.flown.FlownAnswered.{FlownAnswered}
use Rattle.falcon_core.specs.Answer.{answer_fields, numbers_of, answer_of}
use Rattle.falcon_core.specs.Calls.{reports, commands, is_report, sequence_refusal_of, legs_in, flight_after, output_of, refused_of, step_of}
use Rattle.falcon_core.specs.Flown.{flown_refused_of, flown_accepted_of, no_legs, flight_step_of, beside_of}
use Rattle.falcon_core.proofs.FlightCalls.{tick_beside, report_beside, command_beside}
use Rattle.falcon_core.proofs.Numbers.{numbers_count}
use Rattle.requests.specs.declared.kinds.FlightCall.{FlightCall}
use Rattle.requests.specs.declared.kinds.FlightCall.TheVariants.{Ticks, Reports, Commands}
use Rattle.requests.specs.Kinds.{flight_asks}
use Rattle.requests.specs.ByLine.{extra_of, reply_numbers}
use Rattle.requests.proofs.Buffer.{reply_ten}
use Rattle.sheet.specs.Entry.{outcome_alone, Replied}
use Rattle.sheet.specs.Many.{state_of}

-- an answer's ten numbers at the front of an array
front_ten : (a : Answer) (ns d : List ℕ) → ns ≡ numbers_of a ++ d → take answer_fields ns ≡ numbers_of a
front_ten a ns d e =
    ap (take answer_fields) e
    ∙ ap (λ (n : ℕ). take n (numbers_of a ++ d)) (sym (numbers_count a))
    ∙ take-append_seam (numbers_of a) d

-- so is the reply that tells nothing of the state
pub replied_ten :
    (a : Answered) (ns d : List ℕ) →
    extra_of a.supervisor a.answer.outcome ≡ [] →
    ns ≡ numbers_of a.answer ++ d →
    answer_fields ≤ length ns →
    Replied a a.supervisor ns answer_fields
replied_ten a ns d none e room = record { state = refl; numbers = front_ten a.answer ns d e ∙ reply_ten a none; among = room }

-- only the totals and the record tell anything
pub told_none : (s : Supervisor) (o : Output) → (o ≡ Totals → ⊥) → (o ≡ Record → ⊥) → extra_of s (Ok o) ≡ []
unfolding extra_of
told_none s Nothing p q = refl
told_none s (TickOutput t) p q = refl
told_none s Totals p q = absurd (p refl)
told_none s Record p q = absurd (q refl)

-- what it tells of the state is put behind its ten numbers
pub replied_told :
    (a : Answered) (ns d t rest : List ℕ) (n : ℕ) →
    ns ≡ numbers_of a.answer ++ d →
    t ≡ extra_of a.supervisor a.answer.outcome →
    length t ≡ n →
    Replied a a.supervisor (take answer_fields ns ++ (t ++ rest)) (answer_fields + n)
unfolding reply_numbers
replied_told a ns d t rest n e told wide =
    let front : List ℕ = numbers_of a.answer in
    let is : take answer_fields ns ++ (t ++ rest) ≡ (front ++ t) ++ rest = ap (λ (l : List ℕ). l ++ (t ++ rest)) (front_ten a.answer ns d e) ∙ sym (append_assoc front t rest) in
    let long : length (front ++ t) ≡ answer_fields + n = omega (arith, length-append front t, numbers_count a.answer) in
    record {
      state = refl;
      numbers =
          ap (λ (m : ℕ). take m (take answer_fields ns ++ (t ++ rest))) (sym long)
          ∙ ap (take (length (front ++ t))) is
          ∙ take-append_seam (front ++ t) rest
          ∙ ap (λ (l : List ℕ). front ++ l) told;
      among = omega (arith, ap (λ (l : List ℕ). length l) is, length-append (front ++ t) rest);
    }

-- ---- a tick, a report or a command

-- reports and commands read no waypoint
pub report_legs : (w : Flown) (l : Legs) (failed : Bool) → flight_step_of w no_legs (reports failed) ≡ flight_step_of w l (reports failed)
unfolding flight_step_of flight_after output_of
report_legs w l failed = refl

pub command_legs :
    (w : Flown) (l : Legs) (ev : Event) (level low : Bool) →
    flight_step_of w no_legs (commands ev level low) ≡ flight_step_of w l (commands ev level low)
unfolding flight_step_of flight_after output_of
command_legs w l ev level low = refl

-- no answer of theirs tells anything of the state
flight_ten : (s : Supervisor) (w : Flown) (l : Legs) (call : FlightCall) → extra_of s (flight_step_of w l (flight_asks call)).answer.outcome ≡ []
unfolding flight_step_of flown_accepted_of flown_refused_of answer_of output_of extra_of
flight_ten s w l call = go (sequence_refusal_of w.opened w.report_due (is_report (flight_asks call))) call
  where
    go : (o : Option Refusal) (k : FlightCall) → extra_of s (option_map_or (flown_refused_of w) o (flown_accepted_of w (flight_after w.flight l (flight_asks k)) (output_of w.flight l (flight_asks k)))).answer.outcome ≡ []
    go (Some refusal) k = refl
    go None (Ticks t) = refl
    go None (Reports failed) = refl
    go None (Commands ev level low) = refl

module _ (w : Flown) (ps : List Point) where
  abbrev state : Supervisor
  state = state_of w ps

  abbrev parts : FlightCall → FlownAnswered
  parts call = flight_step_of w (legs_in state) (flight_asks call)

  pub call_beside : (call : FlightCall) → beside_of state (parts call) ≡ step_of state (flight_asks call)
  call_beside (Ticks t) = tick_beside state t (legs_in state) w (parts (Ticks t)) refl refl refl
  call_beside (Reports failed) = report_beside state failed w (parts (Reports failed)) refl (sym (report_legs w (legs_in state) failed))
  call_beside (Commands ev level low) =
      command_beside state ev level low w (parts (Commands ev level low)) refl (sym (command_legs w (legs_in state) ev level low))

  -- the waypoints stay
  pub replied_flight :
      (call : FlightCall) (l : Legs) (told : FlownAnswered) (ns d : List ℕ) →
      l ≡ legs_in state →
      told ≡ flight_step_of w l (flight_asks call) →
      ns ≡ numbers_of told.answer ++ d →
      answer_fields ≤ length ns →
      Replied (step_of state (flight_asks call)) (state_of told.flown ps) ns answer_fields
  replied_flight call l told ns d legs is e room =
      let all : beside_of state told ≡ step_of state (flight_asks call) =
      ap (beside_of state) (is ∙ ap (λ (x : Legs). flight_step_of w x (flight_asks call)) legs) ∙ call_beside call in
      let none : extra_of (beside_of state told).supervisor told.answer.outcome ≡ [] =
      ap (λ (x : FlownAnswered). extra_of (beside_of state told).supervisor x.answer.outcome) is ∙ flight_ten _ w l call in
      rw (← all) (replied_ten (beside_of state told) ns d none e room)

-- ---- a line that is refused

pub replied_refused :
    (s : Supervisor) (refusal : Refusal) (a : Answered) (ns d : List ℕ) →
    a ≡ refused_of s refusal →
    ns ≡ numbers_of a.answer ++ d →
    answer_fields ≤ length ns →
    Replied (refused_of s refusal) s ns answer_fields
unfolding refused_of answer_of extra_of
replied_refused s refusal a ns d is e room =
    replied_ten (refused_of s refusal) ns d refl (e ∙ ap (λ (x : Answered). numbers_of x.answer ++ d) is) room

-- ---- the outcome without what it tells

pub outcome_is :
    (P : Output → Unit → Type 0) (o : Result Output Refusal) (r : Result Unit Refusal) →
    MatchResult o (λ x. IsOkAnd r (P x)) (λ e. r ≡ Err e) →
    r ≡ outcome_alone o
outcome_is P (Ok x) (Ok y) h = refl
outcome_is P (Ok x) (Err e) h = absurd h
outcome_is P (Err e) r h = h

-- ---- the same of equal parts

pub replied_as :
    (a b : Answered) (s t : Supervisor) (ns ms : List ℕ) (count n : ℕ) →
    Replied a s ns count →
    a ≡ b →
    t ≡ s →
    ms ≡ ns →
    n ≡ count →
    Replied b t ms n
replied_as a b s t ns ms count n h ea es en ec = rw (← ea, es, en, ec) h
