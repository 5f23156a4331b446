-- What is written of a reading.
use Rattle.std.specs.Prelude.{ℕ, List, [], ◌∷◌, ◌++◌, Ok, Err, Result, codes, decimal}
use Rattle.std.specs.Fmt.{signed_decimal}
use Rattle.faults.specs.FaultTexts.{fault_line}
use Rattle.faults.specs.declared.fault.Fault.{Fault}
use Rattle.offset_report.specs.declared.standing.Standing.{Standing}

-- what is said of a reading: where the axis stands, or why the reading was refused
abbrev pub Report : Type 0
Report = Result Standing Fault

-- as `line=8 bare=80 offset=-8`
abbrev pub standing_text : Standing → List ℕ
standing_text s = codes "line=" ++ decimal s.line ++ codes " bare=" ++ signed_decimal s.bare ++ codes " offset=" ++ signed_decimal s.offset

-- that, or the text of the fault, with its line end
abbrev pub report_line : Result Standing Fault → List ℕ
report_line (Ok s) = standing_text s ++ 10 ∷ []
report_line (Err f) = fault_line f

abbrev pub report_lines : List (Result Standing Fault) → List ℕ
report_lines [] = []
report_lines (r ∷ rs) = report_line r ++ report_lines rs
