-- What a layer asks of the source below it.
use Rattle.std.specs.Prelude.{ℕ, cond, ℤ, pos, Some, None, Option, nat_lt}
use Rattle.faults.specs.Faults.{fault_of, on_axis}
use Rattle.faults.specs.declared.fault.Fault.{Fault}
use Rattle.faults.specs.declared.fault.Part.{Part}
use Rattle.faults.specs.declared.fault.Refusal.TheVariants.{NoSuchAxis, StackFull}
use Rattle.source.specs.Meaning.{Seen}

-- 3 for an absent axis, and 12 for a stack that is full, said by the part that asks
abbrev pub axis_fit : Part → ℕ → Seen → Option Fault
axis_fit p a s = cond (nat_lt a s.axes) None (Some (on_axis a (fault_of p NoSuchAxis)))

abbrev pub depth_fit : Part → Seen → Option Fault
depth_fit p s = cond (nat_lt s.depth 16) None (Some (fault_of p StackFull))

-- the first refusal of two checks
abbrev pub then_fit : Option Fault → Option Fault → Option Fault
then_fit None o = o
then_fit (Some f) o = Some f

-- where an axis is, and 0 for one that is not there
abbrev pub position_seen : Seen → ℕ → ℤ
position_seen s a = cond (nat_lt a s.axes) (s.bare a) (pos 0)
