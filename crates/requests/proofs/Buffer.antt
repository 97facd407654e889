-- Under what its line needs a buffer stays as it was and the line is refused with 9; with that much the answer fits and stands at its front.
use Prim.Native.Nat.{ℕ, ◌+◌, ◌*◌, ◌≤◌, ◌<◌}
use native.Mathlib.Omega.{arith}
use mathlib.Core.Path.{◌≡◌, refl, sym, ap, ◌∙◌, subst}
use mathlib.Core.List.{List, [], ◌++◌, append-nil}
use Rattle.std.proofs.lemmas.Bool.{cond_both, lt-ltb, le-ltb}
use lib.Dec.{eqb}
use lib.ListN.{length, drop, length-append}
use Rattle.std.specs.Prelude.{Option, Some, None, Result, Ok, Err}
use Rattle.falcon_core.specs.declared.supervisor.Supervisor.{Supervisor}
use Rattle.falcon_core.specs.declared.supervisor.Answered.{Answered}
use Rattle.falcon_core.specs.declared.answer.Output.{Output}
use Rattle.falcon_core.specs.Calls.{Request, plans, totals, saves, refusal_of, legs_in, output_of, after_of, refused_of, accepted_of}
use Rattle.falcon_core.specs.Answer.{answer_fields, answer_of, numbers_of}
use Rattle.falcon_core.specs.declared.refusal.Refusal.{Refusal}
use Rattle.falcon_core.specs.declared.refusal.Refusal.TheVariants.{ShortBuffer, NotALine}
use Rattle.falcon_core.proofs.Answers.{step_refused, step_accepted}
use Rattle.falcon_totals.specs.Totals.{totals_count, totals_numbers}
use Rattle.falcon_record.specs.Saved.{record_fields}
use Rattle.falcon_record.proofs.Saving.{columns_count, record_fits}
use Rattle.columns.specs.Field.{field_width, kind_of}
use Rattle.columns.proofs.Writing.{length_line}
use Rattle.columns.specs.Line.{line_of, written_over}
use Rattle.relay_math.specs.Small.{number_at}
use Rattle.requests.specs.Kinds.{Asked, asked_step, totals_kind, saves_kind, numbers_ask}
use Rattle.requests.specs.Parse.{read_asks, line_numbers, line_asks}
use Rattle.falcon_core.proofs.Numbers.{numbers_count}
use Rattle.requests.proofs.Asking.{line_numbers_kind}
use Rattle.requests.proofs.ByKind.{numbers_ask_keeps}
use Rattle.requests.specs.ByLine.{totals_answer, record_need, need_fields_of, most_needed, need_of, buffered_line_asks, line_step, extra_of, reply_numbers, reply_of, buffer_after}

-- ---- what a line needs

totals_need : (v : ℕ) → v ≡ totals_kind → totals_answer ≡ need_fields_of (Some v)
unfolding need_fields_of
totals_need v e = rw e

saves_need : (v : ℕ) → v ≡ saves_kind → record_need ≡ need_fields_of (Some v)
unfolding need_fields_of
saves_need v e = rw e

-- what holds of the three needs holds of every line's
need_keeps : (P : ℕ → Type 0) (k : Option ℕ) → P totals_answer → P record_need → P answer_fields → P (need_fields_of k)
unfolding need_fields_of
need_keeps P (Some n) t r a = cond_both (eqb n totals_kind) _ _ P (λ e. t) (λ e. cond_both (eqb n saves_kind) _ _ P (λ e. r) (λ e. a))
need_keeps P None t r a = a

need_least : (k : Option ℕ) → answer_fields ≤ need_fields_of k
need_least k = need_keeps (λ (m : ℕ). answer_fields ≤ m) k (omega arith) (omega arith) (omega arith)

pub need_most : (k : Option ℕ) → need_fields_of k ≤ most_needed
need_most k = need_keeps (λ (m : ℕ). m ≤ most_needed) k (omega arith) (omega arith) (omega arith)

-- every line needs room for ten fields
pub needs_least : (line : List ℕ) → field_width * answer_fields ≤ need_of line
unfolding need_of
needs_least line = omega (arith, need_least (kind_of line))

-- and none more than the most
pub needs_most : (line : List ℕ) → need_of line ≤ field_width * most_needed
unfolding need_of
needs_most line = omega (arith, need_most (kind_of line))

-- ---- what an answer takes

-- the numbers behind the ten of an answer
abbrev asked_extra : Supervisor → Asked → List ℕ
asked_extra s k = extra_of (asked_step s k).supervisor (asked_step s k).answer.outcome

-- a refused call has none
step_extra :
    (s : Supervisor) (r : Request) (x : ℕ) (o : Option Refusal) →
    refusal_of s r ≡ o →
    length (extra_of (after_of s r) (Ok (output_of s.flight (legs_in s) r))) ≡ x →
    length (asked_extra s (Ok r)) ≤ x
unfolding refused_of accepted_of answer_of extra_of
step_extra s r x None e h = rw (step_accepted s r e) (omega (arith, h))
step_extra s r x (Some n) e h = rw (step_refused s r n e) (omega arith)

-- an answer's numbers are no more than its kind needs
abbrev AnswerFits : ℕ → Asked → Type 0
AnswerFits need k = (s : Supervisor) → answer_fields + length (asked_extra s k) ≤ need

ten_fit : (need : ℕ) (r : Request) → answer_fields ≤ need → ((s : Supervisor) → length (extra_of (after_of s r) (Ok (output_of s.flight (legs_in s) r))) ≡ 0) → AnswerFits need (Ok r)
ten_fit need r h e s = omega (arith, h, step_extra s r 0 (refusal_of s r) refl (e s))

refused_fit : (need : ℕ) (e : Refusal) → answer_fields ≤ need → AnswerFits need (Err e)
unfolding refused_of answer_of extra_of
refused_fit need e h s = h

numbers_fit : (ns : List ℕ) → AnswerFits (need_fields_of (Some (number_at ns 0))) (numbers_ask ns)
unfolding output_of extra_of totals_numbers
numbers_fit ns =
    let need = need_fields_of (Some (number_at ns 0)) in
    let least = need_least (Some (number_at ns 0)) in
    numbers_ask_keeps (AnswerFits need) (λ e. refused_fit need e least) ns (λ kind. ten_fit need _ least (λ s. refl)) (ten_fit need _ least (λ s. refl)) (ten_fit need _ least (λ s. refl))
    (λ ev. ten_fit need _ least (λ s. refl))
    (ten_fit need _ least (λ s. refl))
    (ten_fit need _ least (λ s. refl))
    (λ e s. omega (arith, totals_need (number_at ns 0) e, step_extra s (plans totals) totals_count (refusal_of s (plans totals)) refl refl))
    (λ e s. omega (arith, saves_need (number_at ns 0) e, step_extra s (plans saves) record_fields (refusal_of s (plans saves)) refl (columns_count (after_of s (plans saves))), record_fits))

line_fit : (line : List ℕ) (k : Option (List ℕ)) → line_numbers line ≡ k → AnswerFits (need_fields_of (kind_of line)) (read_asks k)
line_fit line (Some ns) e = subst (λ (f : Option ℕ). AnswerFits (need_fields_of f) (numbers_ask ns)) (sym (line_numbers_kind line ns e)) (numbers_fit ns)
line_fit line None e = refused_fit (need_fields_of (kind_of line)) NotALine (need_least (kind_of line))

-- a reply is no longer than what its line needs
pub reply_fits : (s : Supervisor) (line : List ℕ) → length (reply_of (asked_step s (line_asks line))) ≤ need_of line
unfolding reply_of reply_numbers need_of line_asks
reply_fits s line =
    let a : Answered = asked_step s (line_asks line) in
    let extra : List ℕ = extra_of a.supervisor a.answer.outcome in
    omega (
      arith,
      length_line (numbers_of a.answer ++ extra),
      length-append (numbers_of a.answer) extra,
      numbers_count a.answer,
      line_fit line (line_numbers line) refl s,
    )

-- an answer has the numbers of what it tells behind its ten
pub reply_extra : (a : Answered) (o : Result Output Refusal) → a.answer.outcome ≡ o → reply_numbers a ≡ numbers_of a.answer ++ extra_of a.supervisor o
unfolding reply_numbers
reply_extra a o e = ap (λ (x : Result Output Refusal). numbers_of a.answer ++ extra_of a.supervisor x) e

-- and none where it tells nothing
pub reply_ten : (a : Answered) → extra_of a.supervisor a.answer.outcome ≡ [] → numbers_of a.answer ≡ reply_numbers a
unfolding reply_numbers
reply_ten a h = sym (ap (λ (l : List ℕ). numbers_of a.answer ++ l) h ∙ append-nil (numbers_of a.answer))

-- numbers that fit are written, and what stands behind them stays
pub written_fits : (ns out : List ℕ) → field_width * length ns ≤ length out → written_over ns out ≡ line_of ns ++ drop (length (line_of ns)) out
unfolding written_over
written_fits ns out h =
    let over : written_over ns out ≡ line_of ns ++ drop (field_width * length ns) out = simp (le-ltb (length out) (field_width * length ns) h) in
    over ∙ ap (λ (n : ℕ). line_of ns ++ drop n out) (sym (length_line ns))

-- ---- by the buffer's length

-- under what the line needs
module _ (s : Supervisor) (line out : List ℕ) (h : length out < need_of line) where
  pub short_step : line_step s line out ≡ refused_of s ShortBuffer
  unfolding line_step buffered_line_asks
  short_step = simp (lt-ltb (length out) (need_of line) h)

  pub short_buffer : out ≡ buffer_after s line out
  unfolding buffer_after
  short_buffer = simp (lt-ltb (length out) (need_of line) h)

-- with what the line needs
pub full_asks : (line out : List ℕ) → need_of line ≤ length out → buffered_line_asks line out ≡ line_asks line
unfolding buffered_line_asks
full_asks line out h = simp (le-ltb (length out) (need_of line) h)

module _ (s : Supervisor) (line out : List ℕ) (h : need_of line ≤ length out) where
  pub full_step : asked_step s (line_asks line) ≡ line_step s line out
  unfolding line_step
  full_step = ap (asked_step s) (sym (full_asks line out h))

  pub full_buffer : reply_of (asked_step s (line_asks line)) ++ drop (length (reply_of (asked_step s (line_asks line)))) out ≡ buffer_after s line out
  unfolding buffer_after
  full_buffer =
      ap (λ (x : Answered). reply_of x ++ drop (length (reply_of x)) out) full_step
      ∙ simp (le-ltb (length out) (need_of line) h)

  -- the answer written is the reply, and what stands behind it stays
  pub full_reply : written_over (reply_numbers (asked_step s (line_asks line))) out ≡ buffer_after s line out
  unfolding reply_of
  full_reply =
      let ns : List ℕ = reply_numbers (asked_step s (line_asks line)) in
      written_fits ns out (omega (arith, length_line ns, reply_fits s line)) ∙ full_buffer
