-- A stack: layers put, one after another, on a source.
use Rattle.std.specs.Prelude.{ℕ, ◌*◌, cond, List, [], ◌∷◌, ℤ, pos, ◌+ℤ◌, ◌-ℤ◌, ◌*ℤ◌, Some, None, Option, ◌==◌}
use Rattle.faults.specs.declared.fault.Fault.{Fault}
use Rattle.headings.specs.Heads.{row_axis, column_axis, target_axis}
use Rattle.sheets.specs.declared.sheet.Sheet.{Sheet}
use Rattle.sheets.specs.Tables.{Table, held}
use Rattle.source.specs.Meaning.{Seen, Rows, Meaning}
use Rattle.values.specs.Values.{numerator, denominator, OnPoint}
use Rattle.layers.specs.Laid.{laid}
use Rattle.layers.specs.SheetLayers.{sheet_fit, sheet_target, sheet_value, value_seen}
use Rattle.backlash.specs.declared.backlash.Backlash.{Backlash}
use Rattle.backlash.specs.TakeUps.{taken_up}
use Rattle.backlash.specs.BacklashLayers.{backlash_fit, trail}

-- a sheet layer by its sheet, a backlash layer by its numbers
pub data Layer : Type 0 where
  sheet : Sheet → Layer
  backlash : Backlash → Layer

abbrev pub fit : Layer → Seen → Option Fault
fit (sheet s) u = sheet_fit (held s) u
fit (backlash b) u = backlash_fit b u

abbrev pub target : Layer → ℕ
target (sheet s) = sheet_target (held s)
target (backlash b) = b.axis

-- the amount, after rows, of a layer newly put on m
abbrev pub gives : Layer → Meaning → Rows → ℤ
gives (sheet s) m rs = sheet_value (held s) (m rs)
gives (backlash b) m rs = taken_up b ((m []).bare b.axis) (trail b.axis m rs)

-- a layer newly put on m
abbrev pub put : Layer → Meaning → Meaning
put l m = laid (fit l (m [])) (target l) (gives l m) m

-- the first layer is the topmost
abbrev pub stacked : List Layer → Meaning → Meaning
stacked [] b = b
stacked (l ∷ ls) b = put l (stacked ls b)

-- the layers that fit on what stands below them; the others are blank
abbrev pub kept : Option Fault → Layer → List Layer → List Layer
kept None l ls = l ∷ ls
kept (Some f) l ls = ls

abbrev pub fitted : List Layer → Meaning → List Layer
fitted [] b = []
fitted (l ∷ ls) b = kept (fit l (stacked ls b [])) l (fitted ls b)

-- the tables with the target a
abbrev pub on_target : ℕ → Option Table → List Table → List Table
on_target a None ts = ts
on_target a (Some t) ts = cond (a == target_axis t.head) (t ∷ ts) ts

abbrev pub tables : ℕ → List Layer → List Table
tables a [] = []
tables a (sheet s ∷ ls) = on_target a (held s) (tables a ls)
tables a (backlash b ∷ ls) = tables a ls

-- the backlash on the axis a
abbrev pub backlashes : ℕ → List Layer → List Backlash
backlashes a [] = []
backlashes a (sheet s ∷ ls) = backlashes a ls
backlashes a (backlash b ∷ ls) = cond (a == b.axis) (b ∷ backlashes a ls) (backlashes a ls)

-- the sum of the tables' values, each to its nearest whole number
abbrev pub value_sum : Seen → List Table → ℤ
value_sum s [] = pos 0
value_sum s (t ∷ ts) = value_seen t s +ℤ value_sum s ts

-- the sum of what the rule of backlash gives, from now on, after rows
abbrev pub backlash_sum : Meaning → Rows → List Backlash → ℤ
backlash_sum m rs [] = pos 0
backlash_sum m rs (b ∷ bs) = taken_up b ((m []).bare b.axis) (trail b.axis m rs) +ℤ backlash_sum m rs bs

-- the product of all D
abbrev pub product : List Table → ℕ
product [] = 1
product (t ∷ ts) = denominator t * product ts

-- N, at what is seen of a source
abbrev pub numerator_seen : Table → Seen → ℤ
numerator_seen t s = numerator t (s.bare (row_axis t.head)) (s.bare (column_axis t.head))

-- the sum of all N/D over that product: each N times the D of the others
abbrev pub exact_sum : Seen → List Table → ℤ
exact_sum s [] = pos 0
exact_sum s (t ∷ ts) = pos (product ts) *ℤ numerator_seen t s +ℤ pos (denominator t) *ℤ exact_sum s ts

-- all tables stand on points
abbrev pub OnPoints : Seen → List Table → Type 0
OnPoints s [] = Unit {0}
OnPoints s (t ∷ ts) = OnPoint t (s.bare (row_axis t.head)) (s.bare (column_axis t.head)) × OnPoints s ts

-- a stack's correction, and its part that is not backlash
abbrev pub correction : List Layer → Meaning → Rows → ℕ → ℤ
correction ls b rs a = (stacked ls b rs).offset a -ℤ (b rs).offset a

abbrev pub table_correction : List Layer → Meaning → Rows → ℕ → ℤ
table_correction ls b rs a = correction ls b rs a -ℤ backlash_sum b rs (backlashes a (fitted ls b))
