-- A text and its table determine each other.
use Rattle.std.proofs.Common.{◌≡◌, ℕ, List, [], ◌∷◌, ◌++◌, map, Ok, Err, Result, sym, refl, ap, ◌∙◌, arith}
use Rattle.std.specs.Fmt.{signed_decimal}
use Rattle.lines.specs.Lines.{Cut, cut, CLOSE, joined_lines}
use Rattle.lines.proofs.Cuts.{cut_joined, cut_lines}
use Rattle.faults.specs.declared.fault.Fault.{Fault}
use Rattle.headings.specs.Heads.{Head}
use Rattle.sheets.specs.Tables.{Table, fresh, head_fits, Valid}
use Rattle.table_text.specs.HeadingTexts.{read_heading}
use Rattle.table_text.specs.TableTexts.{read_body, read_lines, reading}
use Rattle.table_writing.specs.TableTexts.{heading_line, lines_of, text_of}
use Rattle.text_law.specs.TextLaw.{TextLaw}
use Rattle.text_law.proofs.Fields.{no}
use Rattle.text_law.proofs.Headings.{heading_only, heading_back}
use Rattle.text_law.proofs.Bodies.{body_only, body_back, flat_heading, flat_entries}

abbrev pub after_heading : List (List ℕ) → List ℕ → Result Head Fault → Result Table Fault
after_heading ls left r = elim r [ Ok h ↦ read_body (fresh h) 2 ls left | Err f ↦ Err f ]

pub lines_only : (ls : List (List ℕ)) (left : List ℕ) (t : Table) → read_lines ls left ≡ Ok t → Valid t × (ls ≡ lines_of t) × (left ≡ [])
lines_only [] left t h = no cc
lines_only (l ∷ ls) left t h₀ =
    elim (read_heading l) as (λ r. read_heading l ≡ r → after_heading ls left r ≡ Ok t → Valid t × (l ∷ ls ≡ lines_of t) × (left ≡ [])) [
      | Ok h ↦ (λ q g.
          let b = body_only (fresh h) t 2 ls left g in
          let o = heading_only l h q in (
            record { heading = ap head_fits b.same_head ∙ o.0; complete = b.full; range = b.narrow tt },
            ap (λ x. x ∷ ls) (o.1 ∙ ap heading_line (sym b.same_head)) ∙ ap (λ x. heading_line t.head ∷ x) b.same_lines,
            b.nothing,
          ))
      | Err f ↦ (λ q g. no cc)
    ] refl h₀

pub law_only : (s : List ℕ) (t : Table) → reading s ≡ Ok t → Valid t × (s ≡ text_of t)
law_only s t h =
    let o = lines_only (cut s).lines (cut s).left t h in
    (o.0, cut_joined s ∙ ap (λ x. joined_lines x (cut s).left) o.1 ∙ ap (joined_lines (lines_of t)) o.2)

pub law_back : (t : Table) → Valid t → reading (text_of t) ≡ Ok t
law_back t v =
    ap (λ (x : Cut). read_lines x.lines x.left) (cut_lines (lines_of t) (flat_heading t.head v.heading, flat_entries t.entries v.range))
    ∙ ap (after_heading (map signed_decimal t.entries ++ CLOSE ∷ []) []) (heading_back t.head v.heading)
    ∙ body_back (fresh t.head) 2 t.entries (omega (arith, v.complete)) v.range

pub law : TextLaw
law = record { read = law_only; written = λ s t v e. ap reading e ∙ law_back t v }
