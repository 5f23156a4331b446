-- The headings of compensation tables.
use Rattle.std.specs.Prelude.{◌≡◌, ℕ, ◌+◌, ◌-◌, ◌*◌, Bool, true, cond, ◌&&◌, List, [], ◌∷◌, ℤ, pos, Ok, Err, Result, int_le, nat_le, unsigned_abs, MatchResult, false}
use Rattle.headings.specs.declared.heading.Heading.{Heading}
use Rattle.headings.specs.declared.heading.Heading.TheVariants.{Screw, Plane}
use Rattle.headings.specs.declared.heading.MotorNumber.{MotorNumber}
use Rattle.headings.specs.declared.heading.Screw.{Screw as ScrewHeading}
use Rattle.headings.specs.declared.heading.Plane.{Plane as PlaneHeading}
use Rattle.headings.specs.declared.numbers.ScrewNumbers.{ScrewNumbers}
use Rattle.headings.specs.declared.numbers.PlaneNumbers.{PlaneNumbers}
use Rattle.std.specs.Result.{result_map_both}
use Rattle.faults.specs.Faults.{fault_of}
use Rattle.faults.specs.declared.fault.Fault.{Fault}
use Rattle.faults.specs.declared.fault.Part.TheVariants.{Sheet}
use Rattle.faults.specs.declared.fault.Refusal.{Refusal}
use Rattle.faults.specs.declared.fault.Refusal.TheVariants.{OutOfRange}

-- a fault of a sheet's calls
abbrev pub sheet_fault : Refusal → Fault
sheet_fault r = fault_of Sheet r

-- the numbers of a heading: of a screw table entries, source, target and span;
-- of a plane rows, columns, row motor, column motor, target, row span and column span
pub data Head : Type 0 where
  screw : ℕ → ℕ → ℕ → ℕ → Head
  plane : ℕ → ℕ → ℕ → ℕ → ℕ → ℕ → ℕ → Head

abbrev pub screw_of : ScrewHeading → Head
screw_of h = screw h.entries h.source.number h.target.number h.span

abbrev pub plane_of : PlaneHeading → Head
plane_of h = plane h.rows h.columns h.row_motor.number h.column_motor.number h.target.number h.row_span h.column_span

abbrev pub head_of : Heading → Head
head_of (Screw h) = screw_of h
head_of (Plane h) = plane_of h

-- how many entries a table has
abbrev pub capacity : Head → ℕ
capacity (screw n s t c) = n
capacity (plane r c s u t a b) = (r + 1) * (c + 1) - 1

-- the axes of a table: motor #1 is axis 0. A screw is read by one axis, which stands for row and column
abbrev pub row_axis : Head → ℕ
row_axis (screw n s t c) = s - 1
row_axis (plane r c s u t a b) = s - 1

abbrev pub column_axis : Head → ℕ
column_axis (screw n s t c) = s - 1
column_axis (plane r c s u t a b) = u - 1

abbrev pub target_axis : Head → ℕ
target_axis (screw n s t c) = t - 1
target_axis (plane r c s u t a b) = t - 1

-- from 1 to the highest
abbrev pub within : ℕ → ℤ → Bool
within high z = int_le (pos 1) z && int_le z (pos high)

abbrev pub screw_fits : ℤ → ℤ → ℤ → ℤ → Bool
screw_fits n s t c = within 256 n && (within 8 s && (within 8 t && within 16777216 c))

abbrev pub plane_fits : ℤ → ℤ → ℤ → ℤ → ℤ → ℤ → ℤ → Bool
plane_fits r c s u t a b = within 16 r && (within 16 c && (within 8 s && (within 8 u && (within 8 t && (within 262144 a && within 262144 b)))))

abbrev pub screw_heading : ℤ → ℤ → ℤ → ℤ → Result Head Fault
screw_heading n s t c = cond (screw_fits n s t c) (Ok (screw (unsigned_abs n) (unsigned_abs s) (unsigned_abs t) (unsigned_abs c))) (Err (sheet_fault OutOfRange))

abbrev pub plane_heading : ℤ → ℤ → ℤ → ℤ → ℤ → ℤ → ℤ → Result Head Fault
plane_heading r c s u t a b =
    cond (plane_fits r c s u t a b)
    (Ok (plane (unsigned_abs r) (unsigned_abs c) (unsigned_abs s) (unsigned_abs u) (unsigned_abs t) (unsigned_abs a) (unsigned_abs b))) (Err (sheet_fault OutOfRange))

-- what is made of plain numbers: a motor's number, and a screw's and a plane's heading

abbrev pub MotorKnown : ℤ → Result MotorNumber Fault → Type 0
MotorKnown z r =
    MatchResult r (λ m. (within 8 z ≡ true) × (m.number ≡ unsigned_abs z)) (λ f. (within 8 z ≡ false) × (f ≡ sheet_fault OutOfRange))

abbrev pub ScrewMade : ScrewNumbers → Result ScrewHeading Fault → Type 0
ScrewMade n r = result_map_both screw_of (λ f. f) r ≡ screw_heading n.entries n.source n.target n.span

abbrev pub PlaneMade : PlaneNumbers → Result PlaneHeading Fault → Type 0
PlaneMade n r =
    result_map_both plane_of (λ f. f) r ≡ plane_heading n.rows n.columns n.row_motor n.column_motor n.target n.row_span n.column_span

-- entries in their range
abbrev pub in_range : List ℤ → Bool
in_range [] = true
in_range (z ∷ zs) = nat_le (unsigned_abs z) 32767 && in_range zs
