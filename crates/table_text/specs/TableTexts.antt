-- How a table text is read, line by line.
use Rattle.std.specs.Prelude.{ℕ, ◌+◌, cond, List, [], ◌∷◌, length, Some, None, Ok, Err, Option, Result}
use Rattle.std.specs.Result.{result_ok}
use Rattle.numerals.specs.Numbers.{read_whole}
use Rattle.lines.specs.Lines.{cut, CLOSE, same}
use Rattle.faults.specs.Faults.{text_fault}
use Rattle.faults.specs.declared.fault.Fault.{Fault}
use Rattle.faults.specs.declared.fault.Refusal.TheVariants.{WrongForm, Incomplete}
use Rattle.headings.specs.Heads.{Head}
use Rattle.sheets.specs.Tables.{Table, fresh, push, entry_refusal, close_refusal}
use Rattle.table_text.specs.HeadingTexts.{read_heading}

-- what follows CLOSE at line k
abbrev pub ended : Table → ℕ → List (List ℕ) → List ℕ → Result Table Fault
ended t k [] [] = Ok t
ended t k [] (c ∷ cs) = Err (text_fault WrongForm (k + 1))
ended t k (l ∷ ls) left = Err (text_fault WrongForm (k + 1))

-- the lines after the heading, from line k on, and what follows the last line end, of a table of which t is in
abbrev pub read_body : Table → ℕ → List (List ℕ) → List ℕ → Result Table Fault
read_body t k [] [] = Err (text_fault Incomplete k)
read_body t k [] (c ∷ cs) = Err (text_fault WrongForm k)
read_body t k (l ∷ ls) left =
    cond (same l CLOSE) (elim (close_refusal t) [ None ↦ ended t k ls left | Some r ↦ Err (text_fault r k) ])
    (elim (read_whole l) [ None ↦ Err (text_fault WrongForm k) | Some z ↦ elim (entry_refusal t z) [ None ↦ read_body (push t z) (k + 1) ls left | Some r ↦ Err (text_fault r k) ] ])

-- the lines of a text, read on from the table so far: the next line is that after its entries
abbrev pub read_on : Table → List ℕ → Result Table Fault
read_on t s = read_body t (length t.entries + 2) (cut s).lines (cut s).left

abbrev pub read_lines : List (List ℕ) → List ℕ → Result Table Fault
read_lines [] left = Err (text_fault WrongForm 1)
read_lines (l ∷ ls) left = elim (read_heading l) [ Ok h ↦ read_body (fresh h) 2 ls left | Err f ↦ Err f ]

abbrev pub reading : List ℕ → Result Table Fault
reading s = read_lines (cut s).lines (cut s).left

-- whether a text's heading is accepted, which opens the sheet
abbrev pub opens_by : List (List ℕ) → Option Head
opens_by [] = None
opens_by (l ∷ ls) = elim (read_heading l) [ Ok h ↦ Some h | Err f ↦ None ]

abbrev pub opens : List ℕ → Option Head
opens s = opens_by (cut s).lines

-- what a sheet holds after a text was read into it: a text refused at its heading leaves it as it stood, and one refused later leaves it empty
abbrev pub sheet_after : Option Table → List ℕ → Option Table
sheet_after before s = elim (opens s) [ None ↦ before | Some h ↦ result_ok (reading s) ]
