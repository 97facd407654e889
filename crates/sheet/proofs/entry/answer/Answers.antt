-- By the buffer's length: refusal 9, or the line's step with its answer written.
use Rattle.std.proofs.Common.{refl, sym, ap, ◌∙◌, List, ℕ, length}
use Rattle.std.specs.Prelude.{Result}
use borrow.Author.Tests.{ltb-true, ltb-false}
use Rattle.columns.specs.Line.{written_over}
use Rattle.falcon_core.specs.declared.supervisor.Supervisor.{Supervisor}
use Rattle.falcon_core.specs.declared.refusal.Refusal.{Refusal}
use Rattle.falcon_core.specs.Answer.{answer_of}
use Rattle.falcon_core.specs.Calls.{refused_of}
use Rattle.requests.specs.ByLine.{need_of, reply_numbers}
use Rattle.requests.proofs.Buffer.{short_step, short_buffer, full_step, full_reply}
use Rattle.sheet.specs.declared.entry.LineAnswered.{LineAnswered}
use Rattle.sheet.specs.Entry.{line_answered}
use Rattle.sheet.proofs.Entries.{outcome_is}
use Rattle.sheet.proofs.entry.answer.Goals as goal

pub returns-then-is_short : goal.returns-then-is_short
unfolding refused_of answer_of
returns-then-is_short c = let a = c.args in
    let h = ltb-true (length a.out.now) (need_of a.line.now) (sym c.is_short.ensures ∙ c.if-is_short.true) in
    record {
      answered = sym (ap line_answered (short_step a.s a.line.now a.out.now h));
      buffer = short_buffer a.s a.line.now a.out.now h;
      unchanged = refl;
    }

abbrev the_answered : Supervisor → Result Unit Refusal → LineAnswered
the_answered s o = record { supervisor = s; outcome = o }

pub returns : goal.returns
returns c = let a = c.args in
    let h = ltb-false (length a.out.now) (need_of a.line.now) (sym c.is_short.ensures ∙ c.if-is_short.false) in
    let answered = c.answer_line-answered in
    record {
      answered =
          ap (λ (o : Result Unit Refusal). the_answered answered.result.supervisor o) (outcome_is _ answered.result.answer.outcome c.map.result c.map.ensures.cases)
          ∙ ap line_answered (answered.ensures ∙ full_step a.s a.line.now a.out.now h);
      buffer =
          c.write_numbers.ensures
          ∙ ap (λ (ns : List ℕ). written_over ns a.out.now) (c.put_reply-count.ensures.numbers ∙ ap reply_numbers answered.ensures)
          ∙ full_reply a.s a.line.now a.out.now h;
      unchanged = refl;
    }
