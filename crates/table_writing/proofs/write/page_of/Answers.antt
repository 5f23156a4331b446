use Rattle.std.proofs.Common.{◌≡◌, [], ◌∷◌, ◌++◌, map, sym, ap, ◌∙◌}
use Rattle.std.specs.Fmt.{signed_decimal}
use Rattle.std.proofs.lemmas.List.{take_all}
use Rattle.filled.specs.Items.{items}
use Rattle.lines.specs.Lines.{joined_lines, CLOSE}
use Rattle.headings.specs.Heads.{head_of}
use Rattle.sheets.specs.Tables.{table_of}
use Rattle.table_writing.specs.Pages.{clip}
use Rattle.table_writing.specs.TableTexts.{heading_line, text_of}
use Rattle.table_writing.proofs.Lengths.{text_length}
use Rattle.table_writing.proofs.Pages.{then}
use Rattle.table_writing.proofs.Rows.{joined_append}
use Rattle.table_writing.proofs.write.page_of.Goals as goal

pub returns : goal.returns
returns c =
    let t = c.args.table.now in
    let es = (table_of t).entries in
    let hl = heading_line (head_of c.heading.result) in
    let cl = CLOSE ++ 10 ∷ [] in
    let rows = joined_lines (map signed_decimal es) [] in
    let p0 = items c.empty-page.result in
    let p1 = items c.put_heading.new.page in
    let p2 = items c.push.new.self in
    let p3 = items c.put_entries.new.page in
    let p4 = items c.put_close.new.page in
    let e : p3 ≡ clip (p2 ++ rows) = c.put_entries.ensures ∙ ap (λ x. clip (p2 ++ joined_lines (map signed_decimal x) [])) c.entries.ensures.value in
    let a = then p2 p3 p4 rows cl e c.put_close.ensures in
    let b = then p1 p2 p4 (10 ∷ []) (rows ++ cl) c.push.ensures a in
    let d = then p0 p1 p4 hl (10 ∷ (rows ++ cl)) c.put_heading.ensures b in
    d ∙ ap (λ x. clip (x ++ (hl ++ 10 ∷ (rows ++ cl)))) c.empty-page.ensures
    ∙ ap (λ x. clip (hl ++ 10 ∷ x)) (sym (joined_append (map signed_decimal es) (CLOSE ∷ [])))
    ∙ ap (λ h. clip (heading_line h ++ 10 ∷ joined_lines (map signed_decimal es ++ CLOSE ∷ []) [])) c.heading.ensures
    ∙ take_all 2304 (text_of (table_of t)) (text_length t)
