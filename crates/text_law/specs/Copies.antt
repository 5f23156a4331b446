-- What comes of a text that is read into a sheet and written back.
use Rattle.std.specs.Prelude.{◌≡◌, ℕ, cond, List, ◌++◌, length, drop, Some, Ok, Err, Option, Result, nat_le}
use Rattle.faults.specs.declared.fault.Fault.{Fault}
use Rattle.faults.specs.declared.fault.Refusal.TheVariants.{WrongLength}
use Rattle.faults.specs.FaultTexts.{fault_line}
use Rattle.headings.specs.Heads.{sheet_fault}
use Rattle.sheets.specs.Tables.{Table}
use Rattle.table_text.specs.TableTexts.{reading}
use Rattle.table_writing.specs.TableTexts.{text_of}

-- the answer: a text that is no table's gets its fault and line, and a table's text its length, or 4 where the row is too short
abbrev pub copying : List ℕ → List ℕ → Result ℕ Fault
copying s out = elim (reading s) [ Ok t ↦ cond (nat_le (length s) (length out)) (Ok (length s)) (Err (sheet_fault WrongLength)) | Err f ↦ Err f ]

-- the row after: a table's text stands at its front, byte for byte, and the rest stays; all of it where the text is refused
abbrev pub copied_row : List ℕ → List ℕ → List ℕ
copied_row s out = elim (reading s) [ Ok t ↦ cond (nat_le (length s) (length out)) (s ++ drop (length s) out) out | Err f ↦ out ]

-- the text and what a sheet holds are one table's
abbrev pub Same : List ℕ → Option Table → Type 0
Same s o = (t : Table) × (reading s ≡ Ok t) × (o ≡ Some t) × (s ≡ text_of t)

-- what the program writes: a table's text as it stands, or the line of the text's fault
abbrev pub checked : List ℕ → List ℕ
checked s = elim (reading s) [ Ok t ↦ s | Err f ↦ fault_line f ]
