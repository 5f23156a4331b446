-- A sheet layer: the value of the sheet that it copied, at the bare positions of the axes that the sheet is read by.
use Rattle.std.specs.Prelude.{ℕ, [], ℤ, pos, Some, None, Option}
use Rattle.faults.specs.declared.fault.Fault.{Fault}
use Rattle.faults.specs.declared.fault.Part.TheVariants.{Sheet as Sheets}
use Rattle.faults.specs.declared.fault.Refusal.TheVariants.{Incomplete}
use Rattle.headings.specs.Heads.{Head, sheet_fault, row_axis, column_axis, target_axis}
use Rattle.sheets.specs.declared.sheet.Sheet.{Sheet}
use Rattle.sheets.specs.Tables.{Table, held}
use Rattle.source.specs.Meaning.{Seen, Meaning}
use Rattle.values.specs.Values.{value}
use Rattle.layers.specs.Below.{axis_fit, depth_fit, then_fit}
use Rattle.layers.specs.Laid.{laid}

-- the axes in the order of the heading, then the depth
abbrev pub head_fit : Head → Seen → Option Fault
head_fit h s = then_fit (axis_fit Sheets (row_axis h) s) (then_fit (axis_fit Sheets (column_axis h) s) (then_fit (axis_fit Sheets (target_axis h) s) (depth_fit Sheets s)))

-- 7 for an empty sheet comes first
abbrev pub sheet_fit : Option Table → Seen → Option Fault
sheet_fit None s = Some (sheet_fault Incomplete)
sheet_fit (Some t) s = head_fit t.head s

abbrev pub sheet_target : Option Table → ℕ
sheet_target None = 0
sheet_target (Some t) = target_axis t.head

-- the value at what is seen of a source
abbrev pub value_seen : Table → Seen → ℤ
value_seen t s = value t (s.bare (row_axis t.head)) (s.bare (column_axis t.head))

abbrev pub sheet_value : Option Table → Seen → ℤ
sheet_value None s = pos 0
sheet_value (Some t) s = value_seen t s

-- the table of a sheet that fits
abbrev pub fitting : Option Fault → Option Table → Option Table
fitting None o = o
fitting (Some f) o = None

-- a table put on a source, and a copy of a sheet
abbrev pub table_put : Option Table → Meaning → Meaning
table_put o m = laid (sheet_fit o (m [])) (sheet_target o) (λ rs. sheet_value o (m rs)) m

abbrev pub sheet_put : Sheet → Meaning → Meaning
sheet_put sheet m = table_put (held sheet) m
