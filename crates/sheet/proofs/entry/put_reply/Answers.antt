-- By the outcome: nothing, or the numbers of the totals or of the state.
use Rattle.std.proofs.Common.{arith, sym, ap, ◌∙◌, length}
use Rattle.std.specs.Prelude.{Result, Ok}
use Rattle.falcon_core.specs.declared.answer.Output.{Output}
use Rattle.falcon_core.specs.declared.refusal.Refusal.{Refusal}
use Rattle.falcon_totals.specs.Totals.{totals_count, totals_numbers}
use Rattle.falcon_record.specs.Form.{zone_width, zones_at, later_at, fields_of}
use Rattle.falcon_record.specs.Saved.{record_fields}
use Rattle.falcon_record.proofs.Saving.{columns_count}
use Rattle.requests.specs.ByLine.{extra_of}
use Rattle.sheet.proofs.Entries.{replied_ten, replied_told}
use Rattle.sheet.proofs.entry.put_reply.Goals as goal

pub returns-in-Totals : goal.returns-in-Totals
unfolding extra_of totals_numbers
returns-in-Totals c = let a = c.args.answered in
    let put = c.copy_from_slice in
    let is = put.ensures.after ∙ c.numbers.ensures in
    replied_told a c.put_answer.new.numbers _ put.new.self _ totals_count c.put_answer.ensures
    (is ∙ ap (λ (o : Result Output Refusal). extra_of a.supervisor o) (sym (c.in-Ok.is ∙ ap (λ (o : Output). Ok o) c.in-Totals.is)))
    (ap length is)

pub returns-in-Record : goal.returns-in-Record
unfolding extra_of fields_of later_at zones_at zone_width
returns-in-Record c = let a = c.args.answered in
    let put = c.copy_from_slice-in-Record in
    let is = put.ensures.after ∙ c.record_columns.ensures in
    replied_told a c.put_answer.new.numbers _ put.new.self _ record_fields c.put_answer.ensures
    (is ∙ ap (λ (o : Result Output Refusal). extra_of a.supervisor o) (sym (c.in-Ok.is ∙ ap (λ (o : Output). Ok o) c.in-Record.is)))
    (ap length is ∙ columns_count a.supervisor)

pub returns-in_default : goal.returns-in_default
unfolding extra_of
returns-in_default c = let a = c.args.answered in
    replied_ten a c.put_answer.new.numbers _ (ap (λ (o : Result Output Refusal). extra_of a.supervisor o) c.in_default.is) c.put_answer.ensures (omega arith)
