use Rattle.std.proofs.Common.{◌≡◌, ◌+◌, length, Some, None, Err, sym, ap, ◌∙◌, rules}
use Rattle.std.specs.Option.{option_map}
use Rattle.std.specs.Result.{result_err}
use Rattle.headings.specs.Heads.{sheet_fault}
use Rattle.faults.specs.declared.fault.Refusal.TheVariants.{WrongForm}
use Rattle.faults.specs.Faults.{text_fault}
use Rattle.lines.specs.Lines.{CLOSE}
use Rattle.numerals.specs.Numbers.{read_whole}
use Rattle.sheets.specs.Tables.{begun, push, entry_refusal, close_refusal}
use Rattle.table_text.specs.TableTexts.{read_on}
use Rattle.table_text.proofs.Steps.{accepted_by, at_more, at_other, at_unentered, at_entry}
use Rattle.table_text.proofs.table.fill.Goals as goal

pub returns-then-not-is_empty-clause-end : goal.returns-then-not-is_empty-clause-end
returns-then-not-is_empty-clause-end c =
    let t = begun c.loop-line.definition.begun in
    let rest = c.loop-line.rest.now in
    let line : c.in-Some.line.now ≡ CLOSE = search rules in
    let close : close_refusal t ≡ None = search rules in
    let more : length c.in-Some.after.now ≡ 0 → ⊥ = search rules in
    let e : read_on t rest ≡ Err (text_fault WrongForm (length t.entries + 2 + 1)) = at_more t rest c.in-Some.line.now c.in-Some.after.now c.in-Some.ensures.0 line close more in
    let f : c.in_text.result ≡ text_fault WrongForm (length t.entries + 2 + 1) = search rules in
    sym c.loop-line.invariant.leads ∙ e ∙ ap (λ x. Err x) (sym f)

pub returns-in_err-value-clause-end : goal.returns-in_err-value-clause-end
returns-in_err-value-clause-end c =
    let t = begun c.loop-line.definition.begun in
    let rest = c.loop-line.rest.now in
    let other : c.in-Some.line.now ≡ CLOSE → ⊥ = search rules in
    let none : read_whole c.in-Some.line.now ≡ None = search rules in
    let e : read_on t rest ≡ Err (text_fault WrongForm (length t.entries + 2)) = at_other t rest c.in-Some.line.now c.in-Some.after.now c.in-Some.ensures.0 other None none in
    let now : read_on (begun c.args.definition.now.begun) c.args.text.now ≡ Err (text_fault WrongForm (length t.entries + 2)) = sym c.loop-line.invariant.leads ∙ e in
    search rules

pub returns-in_err-refused_in-2-clause-end : goal.returns-in_err-refused_in-2-clause-end
returns-in_err-refused_in-2-clause-end c =
    let t = begun c.loop-line.definition.begun in
    let rest = c.loop-line.rest.now in
    let other : c.in-Some.line.now ≡ CLOSE → ⊥ = search rules in
    let value : read_whole c.in-Some.line.now ≡ Some c.in_ok-value.value = search rules in
    let refused : result_err c.enter.result ≡ option_map sheet_fault (entry_refusal t c.in_ok-value.value) = search rules in
    let e : read_on t rest ≡ Err c.in_err-refused_in-2.field-0.0 =
    at_unentered t rest c.in-Some.line.now c.in-Some.after.now c.in-Some.ensures.0 other c.in_ok-value.value value (c.filled-at.result + 2) c.enter.result c.in_err-refused_in-2.field-0.0
    c.in_err-refused_in-2.ensures refused (ap (λ n. n + 2) c.filled-at.ensures.value) in
    let now : read_on (begun c.args.definition.now.begun) c.args.text.now ≡ Err c.in_err-refused_in-2.field-0.0 = sym c.loop-line.invariant.leads ∙ e in
    search rules

pub loop-line-preserved : goal.loop-line-preserved
loop-line-preserved c =
    let t = begun c.loop-line.definition.begun in
    let rest = c.loop-line.rest.now in
    let other : c.in-Some.line.now ≡ CLOSE → ⊥ = search rules in
    let value : read_whole c.in-Some.line.now ≡ Some c.in_ok-value.value = search rules in
    let accepted : entry_refusal t c.in_ok-value.value ≡ None = search (rules, accepted_by) in
    let e : read_on t rest ≡ read_on (push t c.in_ok-value.value) c.in-Some.after.now = at_entry t rest c.in-Some.line.now c.in-Some.after.now c.in-Some.ensures.0 other c.in_ok-value.value value accepted in
    let entered : begun c.enter.new.self.begun ≡ push t c.in_ok-value.value = search rules in
    record {
      lends = c.enter.ensures.lends ∙ c.loop-line.invariant.lends;
      stays = c.enter.ensures.stays ∙ c.loop-line.invariant.stays;
      leads = ap (λ u. read_on u c.in-Some.after.now) entered ∙ sym e ∙ c.loop-line.invariant.leads;
    }
