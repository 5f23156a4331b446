-- A mill as its contracts see it: what its source means, and its eight motors.
use Rattle.std.specs.Prelude.{ℕ, ◌+◌, cond, List, [], ◌∷◌, replicate, ℤ, ◌+ℤ◌, Some, None, Option, nat_lt, slice_index_or, slice_set}
use Rattle.faults.specs.declared.fault.Fault.{Fault}
use Rattle.faults.specs.declared.fault.Refusal.{Refusal}
use Rattle.faults.specs.declared.fault.Part.TheVariants.{Machine}
use Rattle.faults.specs.Faults.{fault_of, on_axis}
use Rattle.source.specs.Meaning.{Seen, Meaning}
use Rattle.motor.specs.Motors.{MotorView, fresh, stepped}

pub record Mill : Type 0 where
  pub means : Meaning
  pub motors : List MotorView

-- a mill that was not used yet
abbrev pub fresh_mill : Meaning → Mill
fresh_mill m = record { means = m; motors = replicate 8 fresh }

-- what is seen of its source now
abbrev pub seen : Mill → Seen
seen m = m.means []

abbrev pub motor_at : ℕ → Mill → MotorView
motor_at a m = slice_index_or m.motors a fresh

-- with another record at one axis, and all else as it was
abbrev pub with_motor : ℕ → MotorView → Mill → Mill
with_motor a v m = record { means = m.means; motors = slice_set m.motors a v }

-- the position that a motor works with: bare plus offset where its correction is switched on, else bare
abbrev pub position : Seen → ℕ → MotorView → ℤ
position s a v = cond v.correction (s.bare a +ℤ s.offset a) (s.bare a)

abbrev pub position_at : ℕ → Mill → ℤ
position_at a m = position (seen m) a (motor_at a m)

-- what a machine refuses at an axis
abbrev pub machine_fault : Refusal → ℕ → Fault
machine_fault r a = on_axis a (fault_of Machine r)

-- the first refusal of two checks
abbrev pub first : Option Fault → Option Fault → Option Fault
first None o = o
first (Some f) o = Some f

-- a refused call leaves what was
abbrev pub unless : {A : Type 0} → Option Fault → A → A → A
unless None old new = new
unless (Some f) old new = old

-- each motor whose axis is there takes one cycle, from the axis i on
abbrev pub stepped_all : Seen → ℕ → List MotorView → List MotorView
stepped_all s i [] = []
stepped_all s i (v ∷ vs) = cond (nat_lt i s.axes) (stepped (position s i v) v) v ∷ stepped_all s (i + 1) vs

abbrev pub output_of : MotorView → ℤ
output_of v = v.output
