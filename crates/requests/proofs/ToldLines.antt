-- In the buffer after a line of kind 7 or 8 what it tells of the state stands behind the ten fields, and nothing does where it is refused.
use Prim.Native.Nat.{ℕ, ◌+◌, ◌*◌, ◌≤◌, ◌<◌}
use native.Mathlib.Omega.{arith}
use mathlib.Core.List.{List, ◌++◌, append-nil}
use mathlib.Core.Path.{◌≡◌, refl, sym, ap, ◌∙◌}
use lib.ListN.{length, drop, length-append}
use Rattle.std.specs.Prelude.{Option, Some, None, Ok, Err}
use Rattle.falcon_totals.specs.Totals.{totals_numbers}
use Rattle.falcon_core.specs.declared.supervisor.Supervisor.{Supervisor}
use Rattle.falcon_core.specs.declared.supervisor.Answered.{Answered}
use Rattle.falcon_core.specs.declared.answer.Output.{Output}
use Rattle.falcon_core.specs.declared.answer.Output.TheVariants.{Totals, Record}
use Rattle.falcon_core.specs.Calls.{Planning, plans, totals, saves, refusal_of, refused_of, accepted_of, step_of}
use Rattle.falcon_core.specs.Answer.{answer_of, answer_fields, numbers_of}
use Rattle.falcon_core.specs.declared.refusal.Refusal.{Refusal}
use Rattle.falcon_core.specs.declared.refusal.Refusal.TheVariants.{ShortBuffer}
use Rattle.falcon_core.proofs.Numbers.{numbers_count}
use Rattle.falcon_core.proofs.Answers.{step_accepted, Telling, tells_totals, tells_state, told_output}
use Rattle.falcon_core.proofs.Refused.{told_keeps}
use Rattle.falcon_record.specs.Saved.{columns_of, record_fields}
use Rattle.falcon_record.proofs.Saving.{columns_count}
use Rattle.columns.specs.Field.{field_width, kind_of}
use Rattle.columns.specs.Line.{line_of, over}
use Rattle.columns.proofs.Writing.{length_line, line_append}
use Rattle.requests.specs.Kinds.{Asked, asked_step, totals_kind, saves_kind}
use Rattle.requests.specs.Parse.{line_asks}
use Rattle.requests.specs.ByLine.{totals_answer, record_need, need_fields_of, need_of, line_step, extra_of, reply_numbers, reply_of, buffer_after}
use Rattle.requests.proofs.Buffer.{short_step, short_buffer, reply_extra, full_buffer}

-- ---- refused

-- "a refused line of a later kind has the ordinary columns only"
pub refused_ordinary : (s : Supervisor) (e : Refusal) → reply_numbers (refused_of s e) ≡ numbers_of (refused_of s e).answer
unfolding reply_numbers refused_of answer_of extra_of
refused_ordinary s e = append-nil (numbers_of (answer_of s.flight (Err e)))

-- by the first eleven bytes, whatever follows them, and nothing is written
module _ (s : Supervisor) (line out : List ℕ) where
  short_kind : (k : ℕ) → kind_of line ≡ Some k → length out < field_width * need_fields_of (Some k) → (line_step s line out ≡ refused_of s ShortBuffer) × (buffer_after s line out ≡ out)
  unfolding need_of
  short_kind k e h =
      let short : length out < need_of line = omega (arith, ap (λ (f : Option ℕ). field_width * need_fields_of f) e) in
      (short_step s line out short, sym (short_buffer s line out short))

  -- U1: "a buffer under 209 bytes for kind 7"
  pub totals_short : kind_of line ≡ Some totals_kind → length out < field_width * totals_answer → (line_step s line out ≡ refused_of s ShortBuffer) × (buffer_after s line out ≡ out)
  unfolding need_fields_of
  totals_short e h = short_kind totals_kind e h

  -- U2: "a buffer under 1,870 bytes for kind 8"
  pub record_short : kind_of line ≡ Some saves_kind → length out < field_width * record_need → (line_step s line out ≡ refused_of s ShortBuffer) × (buffer_after s line out ≡ out)
  unfolding need_fields_of
  record_short e h = short_kind saves_kind e h

-- ---- accepted

module _ (s : Supervisor) (p : Planning) (o : Output) (t : Telling p o) (e : refusal_of s (plans p) ≡ None) where
  -- the answer has what it tells of the state behind its ten numbers
  pub told_numbers : reply_numbers (step_of s (plans p)) ≡ numbers_of (step_of s (plans p)).answer ++ extra_of s (Ok o)
  unfolding accepted_of answer_of
  told_numbers =
      let a : Answered = step_of s (plans p) in
      let tells : a.answer.outcome ≡ Ok o = rw (step_accepted s (plans p) e) (ap Ok (told_output s p o t)) in
      reply_extra a (Ok o) tells ∙ ap (λ (u : Supervisor). numbers_of a.answer ++ extra_of u (Ok o)) (told_keeps s p o t)

  -- what it tells, as a line, behind its ten fields; behind that the buffer is as it was
  pub told_over :
      (line out : List ℕ) →
      line_asks line ≡ Ok (plans p) →
      need_of line ≤ length out →
      buffer_after s line out ≡ over (line_of (numbers_of (step_of s (plans p)).answer) ++ line_of (extra_of s (Ok o))) out
  unfolding reply_of
  told_over line out q h =
      let ten : List ℕ = numbers_of (step_of s (plans p)).answer in
      let is : reply_of (asked_step s (line_asks line)) ≡ line_of ten ++ line_of (extra_of s (Ok o)) = ap (λ (k : Asked). reply_of (asked_step s k)) q ∙ ap line_of told_numbers ∙ line_append ten (extra_of s (Ok o)) in
      sym (full_buffer s line out h) ∙ ap (λ (l : List ℕ). over l out) is

  told_buffer :
      (n : ℕ) (line out : List ℕ) →
      length (extra_of s (Ok o)) ≡ n →
      line_asks line ≡ Ok (plans p) →
      need_of line ≤ length out →
      buffer_after s line out ≡ (line_of (numbers_of (step_of s (plans p)).answer) ++ line_of (extra_of s (Ok o))) ++ drop (field_width * (answer_fields + n)) out
  told_buffer n line out wide q h =
      let a = (step_of s (plans p)).answer in
      let front : List ℕ = line_of (numbers_of a) ++ line_of (extra_of s (Ok o)) in
      let long : length front ≡ field_width * (answer_fields + n) = length-append (line_of (numbers_of a)) (line_of (extra_of s (Ok o))) ∙ omega (arith, length_line (numbers_of a), length_line (extra_of s (Ok o)), numbers_count a) in
      told_over line out q h ∙ ap (λ (m : ℕ). front ++ drop m out) long

-- U1: "the ordinary ten fields and then the nine totals"; the bytes behind the 209 are as they were
pub totals_buffer :
    (s : Supervisor) (line out : List ℕ) →
    refusal_of s (plans totals) ≡ None →
    line_asks line ≡ Ok (plans totals) →
    need_of line ≤ length out →
    buffer_after s line out ≡ (line_of (numbers_of (step_of s (plans totals)).answer) ++ line_of (totals_numbers s.totals)) ++ drop (field_width * totals_answer) out
unfolding extra_of totals_numbers
totals_buffer s line out e q h = told_buffer s totals Totals tells_totals e _ line out refl q h

-- U2: "the columns of a line of kind 9, on the same line after its ordinary answer", and so that line as it stands; "Bytes after it are untouched"
pub record_buffer :
    (s : Supervisor) (line out : List ℕ) →
    refusal_of s (plans saves) ≡ None →
    line_asks line ≡ Ok (plans saves) →
    need_of line ≤ length out →
    buffer_after s line out ≡ (line_of (numbers_of (step_of s (plans saves)).answer) ++ line_of (columns_of s)) ++ drop (field_width * (answer_fields + record_fields)) out
unfolding extra_of
record_buffer s line out e q h = told_buffer s saves Record tells_state e record_fields line out (columns_count s) q h
