-- A table text that is read into an empty sheet, or refused.
use Rattle.std.proofs.Common.{◌≡◌, ℕ, ◌+◌, List, [], ◌∷◌, Some, None, Ok, Err, Option, Result, sym, refl, ap, ◌∙◌, append-nil, arith}
use Rattle.std.specs.Result.{result_err, result_ok}
use Rattle.faults.specs.declared.fault.Fault.{Fault}
use Rattle.headings.specs.Heads.{Head}
use Rattle.lines.specs.Lines.{cut}
use Rattle.sheets.specs.Tables.{Table, fresh}
use Rattle.table_text.specs.HeadingTexts.{read_heading}
use Rattle.table_text.specs.TableTexts.{read_body, read_lines, opens_by, sheet_after, reading}
use Rattle.offset_report.specs.Inputs.{readings_from}
use Rattle.offset_report.specs.Offsets.{close_line, start, after_table}
use Rattle.offset_report.specs.Reports.{report_line, report_lines}
use Rattle.faults.specs.FaultTexts.{fault_line}

abbrev body_of : Result Head Fault → List (List ℕ) → List ℕ → Result Table Fault
body_of r ls left = elim r [ Ok h ↦ read_body (fresh h) 2 ls left | Err f ↦ Err f ]

abbrev head_read : Result Head Fault → Option Head
head_read r = elim r [ Ok h ↦ Some h | Err f ↦ None ]

body_read : (r : Result Head Fault) (ls : List (List ℕ)) (left : List ℕ) → elim (head_read r) [ None ↦ None | Some h ↦ result_ok (body_of r ls left) ] ≡ result_ok (body_of r ls left)
body_read (Ok h) ls left = refl
body_read (Err f) ls left = refl

lines_read : (ls : List (List ℕ)) (left : List ℕ) → elim (opens_by ls) [ None ↦ None | Some h ↦ result_ok (read_lines ls left) ] ≡ result_ok (read_lines ls left)
lines_read [] left = refl
lines_read (l ∷ ls) left = body_read (read_heading l) ls left

-- a sheet that was empty holds what was read
held_after : (s : List ℕ) → sheet_after None s ≡ result_ok (reading s)
held_after s = lines_read (cut s).lines (cut s).left

started : (r : Result Table Fault) (o : Option Table) (s : List ℕ) → None ≡ result_err r → o ≡ result_ok r → after_table r s ≡ start o (readings_from (close_line o + 1) s)
started (Ok t) o s e h = ap (λ (x : Option Table). start x (readings_from (close_line x + 1) s)) (sym h)
started (Err f) o s e h = let w : ◌≡◌ {A = ℕ} 0 1 = cc in absurd (omega arith)

-- what a table that was read gives
pub accepted : (t s : List ℕ) (o : Option Table) → None ≡ result_err (reading t) → o ≡ sheet_after None t → after_table (reading t) s ≡ start o (readings_from (close_line o + 1) s)
accepted t s o e h = started (reading t) o s e (h ∙ held_after t)

-- and one that was refused
pub refused : (r : Result Table Fault) (f : Fault) (s : List ℕ) → Some f ≡ result_err r → report_lines (after_table r s) ≡ report_line (Err f)
refused (Ok t) f s e = let w : ◌≡◌ {A = ℕ} 0 1 = cc in absurd (omega arith)
refused (Err g) f s e = append-nil (fault_line g) ∙ ap fault_line cc
