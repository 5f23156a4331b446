use Rattle.std.proofs.Common.{◌≡◌, length, ap, ◌∙◌, rules}
use Rattle.std.proofs.lemmas.List.{take_at}
use Rattle.faults.specs.FaultTexts.{fault_line}
use Rattle.table_text.specs.TableTexts.{reading}
use Rattle.text_law.specs.Copies.{checked}
use Rattle.text_law.proofs.Copies.{copied_whole, refused_whole}
use Rattle.text_law.proofs.check.copy_whole.Goals as goal

pub returns-clause-copies : goal.returns-clause-copies
returns-clause-copies c =
    let s = c.args.text.now in
    let row = c.copy_text.new.out in
    let before = c.deref_mut.result.now in
    let h = c.in_ok-copy_text.ensures in
    let l : length before ≡ length s = ap length c.deref_mut.ensures.value ∙ c.requires in
    let k : length row ≡ length before = c.copy_text.auto.out in
    take_at row _ _ (k ∙ c.deref_mut.ensures.len) ∙ copied_whole (reading s) s before row _ l h.answer h.row

pub returns-in_err-copy_text-clause-copies : goal.returns-in_err-copy_text-clause-copies
returns-in_err-copy_text-clause-copies c =
    let s = c.args.text.now in
    let before = c.deref_mut.result.now in
    let l : length before ≡ length s = ap length c.deref_mut.ensures.value ∙ c.requires in
    let h = c.in_err-copy_text.ensures in
    let e : fault_line c.in_err-copy_text.field-0.0 ≡ checked s = refused_whole (reading s) s before c.in_err-copy_text.field-0.0 l h.answer in
    search rules
