-- Tables, and what a sheet holds of one.
use Rattle.std.specs.Prelude.{◌≡◌, ◌≤◌, Bool, true, cond, List, [], ◌∷◌, ◌++◌, length, ℤ, pos, Some, None, Ok, Err, Option, Result, ◌==◌, nat_le, unsigned_abs}
use Rattle.faults.specs.declared.fault.Refusal.{Refusal}
use Rattle.faults.specs.declared.fault.Refusal.TheVariants.{OutOfRange, TooManyEntries, Incomplete}
use Rattle.std.specs.Option.{option_map}
use Rattle.filled.specs.Items.{items}
use Rattle.sheets.specs.declared.sheet.Sheet.{Sheet}
use Rattle.sheets.specs.declared.table.Table.{Table as HeldTable}
use Rattle.sheets.specs.declared.begun.Begun.{Begun}
use Rattle.std.specs.List.{AllByRecursion}
use Rattle.headings.specs.Heads.{Head, screw, plane, head_of, capacity, screw_fits, plane_fits}

-- a table, complete or begun: its heading, and the entries so far
pub record Table : Type 0 where
  pub head : Head
  pub entries : List ℤ

-- which tables there are: the heading in its ranges, all entries there, and each in its range

abbrev pub head_fits : Head → Bool
head_fits (screw n s t c) = screw_fits (pos n) (pos s) (pos t) (pos c)
head_fits (plane r c s u t a b) = plane_fits (pos r) (pos c) (pos s) (pos u) (pos t) (pos a) (pos b)

pub record Valid (t : Table) : Type 0 where
  pub heading : head_fits t.head ≡ true
  pub complete : length t.entries ≡ capacity t.head
  pub range : AllByRecursion (λ z. unsigned_abs z ≤ 32767) t.entries

-- the table that is being defined: its heading, and the entries so far
abbrev pub begun : Begun → Table
begun b = record { head = head_of b.heading; entries = items b.entries }

-- what a sheet holds: nothing, or a complete table
abbrev pub table_of : HeldTable → Table
table_of t = begun t.begun

abbrev pub held : Sheet → Option Table
held s = option_map table_of s.table

abbrev pub fresh : Head → Table
fresh h = record { head = h; entries = [] }

abbrev pub push : Table → ℤ → Table
push t v = record { head = t.head; entries = t.entries ++ v ∷ [] }

-- why an entry is refused, if it is: all are in, and then its range
abbrev pub entry_refusal : Table → ℤ → Option Refusal
entry_refusal t v =
    cond (nat_le (capacity t.head) (length t.entries)) (Some TooManyEntries)
    (cond (nat_le (unsigned_abs v) 32767) None (Some OutOfRange))

-- why a close is refused, if it is
abbrev pub close_refusal : Table → Option Refusal
close_refusal t = cond (length t.entries == capacity t.head) None (Some Incomplete)

-- what a close makes of a table
abbrev pub closing : Table → Result Table Refusal
closing t = elim (close_refusal t) [ None ↦ Ok t | Some r ↦ Err r ]
