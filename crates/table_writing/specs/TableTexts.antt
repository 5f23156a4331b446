-- How a table is written: a heading line, a line for each entry, and CLOSE.
use Rattle.std.specs.Prelude.{ℕ, Bool, cond, List, [], ◌∷◌, ◌++◌, map, length, drop, Some, None, Ok, Err, codes, decimal, Option, Result, nat_le}
use Rattle.std.specs.Fmt.{signed_decimal}
use Rattle.lines.specs.Lines.{CLOSE, joined_lines}
use Rattle.faults.specs.declared.fault.Fault.{Fault}
use Rattle.faults.specs.declared.fault.Refusal.TheVariants.{WrongLength, Incomplete}
use Rattle.headings.specs.Heads.{Head, screw, plane, sheet_fault}
use Rattle.sheets.specs.Tables.{Table}

-- the heading line, without its end
unfoldable pub heading_line : Head → List ℕ
heading_line (screw n s t c) = codes "DEFINE COMP " ++ (decimal n ++ (codes ",#" ++ (decimal s ++ (codes ",#" ++ (decimal t ++ (codes "," ++ decimal c))))))
heading_line (plane r c s u t a b) =
    codes "DEFINE COMP " ++ (decimal r ++ (codes "." ++ (decimal c ++ (codes ",#" ++ (decimal s ++ (codes ",#" ++ (decimal u
    ++ (codes ",#" ++ (decimal t ++ (codes "," ++ (decimal a ++ (codes "," ++ decimal b))))))))))))

abbrev pub lines_of : Table → List (List ℕ)
lines_of t = heading_line t.head ∷ (map signed_decimal t.entries ++ CLOSE ∷ [])

-- every line ends with byte 10
abbrev pub text_of : Table → List ℕ
text_of t = joined_lines (lines_of t) []

-- what writing the table of a sheet into a row answers, and what the row holds then

abbrev pub fits_in : Table → List ℕ → Bool
fits_in t out = nat_le (length (text_of t)) (length out)

abbrev pub writing : Option Table → List ℕ → Result ℕ Fault
writing None out = Err (sheet_fault Incomplete)
writing (Some t) out = cond (fits_in t out) (Ok (length (text_of t))) (Err (sheet_fault WrongLength))

abbrev pub row_after : Option Table → List ℕ → List ℕ
row_after None out = out
row_after (Some t) out = cond (fits_in t out) (text_of t ++ drop (length (text_of t)) out) out
