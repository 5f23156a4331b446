-- A text that is accepted is the text of the table that the sheet then holds.
use Rattle.std.proofs.Common.{◌≡◌, ℕ, cond, leb, List, [], ◌∷◌, ◌++◌, length, drop, Some, None, Ok, Err, Option, Result, refl, ap, ◌∙◌, append-nil, arith, MatchResult}
use Rattle.std.specs.Result.{result_err, result_ok}
use Rattle.std.proofs.lemmas.List.{drop_all}
use Rattle.std.proofs.lemmas.Bool.{le-leb}
use Rattle.lines.specs.Lines.{cut}
use Rattle.faults.specs.declared.fault.Fault.{Fault}
use Rattle.faults.specs.declared.fault.Refusal.TheVariants.{WrongLength}
use Rattle.faults.specs.FaultTexts.{fault_line}
use Rattle.headings.specs.Heads.{Head, sheet_fault}
use Rattle.sheets.specs.Tables.{Table, fresh}
use Rattle.table_text.specs.HeadingTexts.{read_heading}
use Rattle.table_text.specs.TableTexts.{read_body, read_lines, reading, opens_by, sheet_after}
use Rattle.text_law.specs.Copies.{Same}
use Rattle.text_law.proofs.Fields.{no}
use Rattle.text_law.proofs.WholeTexts.{after_heading, law_only}

pub got : (r : Result Table Fault) → None ≡ result_err r → (t : Table) × (r ≡ Ok t) × (result_ok r ≡ Some t)
got (Ok t) e = (t, refl, refl)
got (Err f) e = no cc

pub lost : (r : Result Table Fault) (f : Fault) → Some f ≡ result_err r → r ≡ Err f
lost (Ok t) f e = no cc
lost (Err g) f e = cc

abbrev pub opened : Result Head Fault → Option Head
opened r = elim r [ Ok h ↦ Some h | Err f ↦ None ]

abbrev pub either : Option Table → Option Table → Option Head → Option Table
either before after o = elim o [ None ↦ before | Some h ↦ after ]

-- what a sheet holds after a text that is accepted
pub got_lines : (before : Option Table) (ls : List (List ℕ)) (left : List ℕ) → None ≡ result_err (read_lines ls left)
    → (t : Table) × (read_lines ls left ≡ Ok t) × (either before (result_ok (read_lines ls left)) (opens_by ls) ≡ Some t)
got_lines before [] left e = no cc
got_lines before (l ∷ ls) left e₀ =
    elim (read_heading l) as (λ r. None ≡ result_err (after_heading ls left r)
    → (t : Table) × (after_heading ls left r ≡ Ok t) × (either before (result_ok (after_heading ls left r)) (opened r) ≡ Some t))
    [ Ok h ↦ (λ e. got (read_body (fresh h) 2 ls left) e) | Err f ↦ (λ e. no cc) ] e₀

-- what reading a text into a sheet answers
pub answered : (before after : Option Table) (s : List ℕ) (r : Result (Unit {0}) Fault) → result_err r ≡ result_err (reading s) → after ≡ sheet_after before s
    → MatchResult r (λ _. Same s after) (λ f. reading s ≡ Err f)
answered before after s (Ok u) e h =
    let g = got_lines before (cut s).lines (cut s).left e in (g.0, g.1, h ∙ g.2, (law_only s g.0 g.1).1)
answered before after s (Err f) e h = lost (reading s) f e

-- the definitions of a copy, over what the text is read as

abbrev pub by_reading : Result Table Fault → List ℕ → List ℕ → Result ℕ Fault
by_reading r s out = elim r [ Ok t ↦ cond (leb (length s) (length out)) (Ok (length s)) (Err (sheet_fault WrongLength)) | Err f ↦ Err f ]

abbrev pub row_by : Result Table Fault → List ℕ → List ℕ → List ℕ
row_by r s out = elim r [ Ok t ↦ cond (leb (length s) (length out)) (s ++ drop (length s) out) out | Err f ↦ out ]

abbrev pub checked_by : Result Table Fault → List ℕ → List ℕ
checked_by r s = elim r [ Ok t ↦ s | Err f ↦ fault_line f ]

-- a row as long as a text holds the text and nothing else
pub whole_row : (s out : List ℕ) → length out ≡ length s → s ++ drop (length s) out ≡ s
whole_row s out h = ap (λ x. s ++ x) (drop_all (length s) out (omega arith)) ∙ append-nil s

pub copied_whole : (r : Result Table Fault) (s out row : List ℕ) (n : ℕ) → length out ≡ length s → Ok n ≡ by_reading r s out → row ≡ row_by r s out → row ≡ checked_by r s
copied_whole (Ok t) s out row n h e q = q ∙ ap (λ b. cond b (s ++ drop (length s) out) out) (le-leb (length s) (length out) (omega arith)) ∙ whole_row s out h
copied_whole (Err f) s out row n h e q = no cc

pub refused_whole : (r : Result Table Fault) (s out : List ℕ) (f : Fault) → length out ≡ length s → Err f ≡ by_reading r s out → fault_line f ≡ checked_by r s
refused_whole (Ok t) s out f h e =
    let g : Err f ≡ Ok (length s) = e ∙ ap (λ b. cond b (Ok (length s)) (Err (sheet_fault WrongLength))) (le-leb (length s) (length out) (omega arith)) in no cc
refused_whole (Err g) s out f h e = let k : f ≡ g = cc in ap fault_line k
