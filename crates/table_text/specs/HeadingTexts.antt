-- How a heading line is read.
use Rattle.std.specs.Prelude.{ℕ, List, [], ◌∷◌, ℤ, pos, Some, None, Err, codes, Result, slice_index_or}
use Rattle.std.specs.Result.{result_map_both}
use Rattle.lines.specs.Fields.{read_fields}
use Rattle.faults.specs.Faults.{text_fault}
use Rattle.faults.specs.declared.fault.Fault.{Fault}
use Rattle.faults.specs.declared.fault.Refusal.TheVariants.{WrongForm}
use Rattle.headings.specs.declared.numbers.ScrewNumbers.{ScrewNumbers}
use Rattle.headings.specs.declared.numbers.PlaneNumbers.{PlaneNumbers}
use Rattle.headings.specs.Heads.{Head, screw_heading, plane_heading}

-- how a text is read: what stands before each number of a heading

abbrev pub screw_leads : List (List ℕ)
screw_leads = codes "DEFINE COMP " ∷ codes ",#" ∷ codes ",#" ∷ codes "," ∷ []

abbrev pub plane_leads : List (List ℕ)
plane_leads = codes "DEFINE COMP " ∷ codes "." ∷ codes ",#" ∷ codes ",#" ∷ codes ",#" ∷ codes "," ∷ codes "," ∷ []

abbrev pub at : List ℤ → ℕ → ℤ
at zs i = slice_index_or zs i (pos 0)

-- the numbers of a heading, from left to right
abbrev pub screw_numbers : List ℤ → ScrewNumbers
screw_numbers z = record { entries = at z 0; source = at z 1; target = at z 2; span = at z 3 }

abbrev pub plane_numbers : List ℤ → PlaneNumbers
plane_numbers z =
    record { rows = at z 0; columns = at z 1; row_motor = at z 2; column_motor = at z 3; target = at z 4; row_span = at z 5; column_span = at z 6 }

-- a fault found while a text was read, at its line
abbrev pub in_text : ℕ → Fault → Fault
in_text k f = text_fault f.refusal k

-- a heading of its numbers, whose refusal stands at the first line
abbrev pub screw_read : ScrewNumbers → Result Head Fault
screw_read n = result_map_both (λ h. h) (in_text 1) (screw_heading n.entries n.source n.target n.span)

abbrev pub plane_read : PlaneNumbers → Result Head Fault
plane_read n = result_map_both (λ h. h) (in_text 1) (plane_heading n.rows n.columns n.row_motor n.column_motor n.target n.row_span n.column_span)

-- the heading line, without its end: its form, and then its ranges
abbrev pub read_heading : List ℕ → Result Head Fault
read_heading l =
    elim (read_fields screw_leads l) [
      | Some z ↦ screw_read (screw_numbers z)
      | None ↦ elim (read_fields plane_leads l) [ Some z ↦ plane_read (plane_numbers z) | None ↦ Err (text_fault WrongForm 1) ]
    ]
