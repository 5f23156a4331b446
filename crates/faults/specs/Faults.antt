-- Refusals by their numbers, and faults by their parts.
use Rattle.std.specs.Prelude.{ℕ, Some, None}
use Rattle.faults.specs.declared.fault.Fault.{Fault}
use Rattle.faults.specs.declared.fault.Part.{Part}
use Rattle.faults.specs.declared.fault.Part.TheVariants.{Text}
use Rattle.faults.specs.declared.fault.Refusal.{Refusal}
use Rattle.faults.specs.declared.fault.Refusal.TheVariants.{WrongForm, OutOfRange, NoSuchAxis, WrongLength, ReadingTooWide, TooManyEntries, Incomplete, JumpTooLarge, PositionLimit, AxisClosed, AxisNotClosed, StackFull}

abbrev pub number : Refusal → ℕ
number WrongForm = 1
number OutOfRange = 2
number NoSuchAxis = 3
number WrongLength = 4
number ReadingTooWide = 5
number TooManyEntries = 6
number Incomplete = 7
number JumpTooLarge = 8
number PositionLimit = 9
number AxisClosed = 10
number AxisNotClosed = 11
number StackFull = 12

-- a fault that names neither a line nor an axis
abbrev pub fault_of : Part → Refusal → Fault
fault_of p r = record { refusal = r; part = p; line = None; axis = None }

abbrev pub on_axis : ℕ → Fault → Fault
on_axis a f = record { refusal = f.refusal; part = f.part; line = f.line; axis = Some a }

abbrev pub at_line : ℕ → Fault → Fault
at_line k f = record { refusal = f.refusal; part = f.part; line = Some k; axis = f.axis }

-- a fault of reading a text, at line k: it names no axis
abbrev pub text_fault : Refusal → ℕ → Fault
text_fault r k = at_line k (fault_of Text r)
