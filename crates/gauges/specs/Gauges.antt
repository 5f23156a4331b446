-- What one reading does to its axis, and which readings are refused.
use Rattle.std.specs.Prelude.{ℕ, Bool, false, cond, ℤ, pos, ◌+ℤ◌, ◌-ℤ◌, ◌*ℤ◌, Some, None, Ok, Err, Option, Result, int_lt, nat_le, nat_lt, unsigned_abs}
use Rattle.std.specs.Int.{int_rem_euclid}
use Rattle.faults.specs.declared.fault.Refusal.{Refusal}
use Rattle.faults.specs.declared.fault.Refusal.TheVariants.{OutOfRange, ReadingTooWide, JumpTooLarge, PositionLimit}
use Rattle.gauges.specs.declared.gauge.Axis.{Axis}
use Rattle.gauges.specs.declared.gauge.Gauge.{Gauge}
use Rattle.gauges.specs.declared.gauge.Gauge.TheVariants.{Encoder, Scale}

-- 0 .. 2^24 - 1 as -2^23 .. 2^23 - 1
abbrev pub centred : ℤ → ℤ
centred m = cond (int_lt m (pos 8388608)) m (m -ℤ pos 16777216)

-- the shorter way round from the last reading of a counter of 24 bits to this one
abbrev pub turn : ℕ → ℕ → ℤ
turn x last_one = centred (int_rem_euclid (pos x -ℤ pos last_one) (pos 16777216))

-- 32 bits, taken as signed
abbrev pub signed : ℕ → ℤ
signed x = cond (nat_lt x 2147483648) (pos x) (pos x -ℤ pos 4294967296)

-- how far the reading x moves the axis, in the gauge's own unit: a count or a sixteenth
abbrev pub travel : Gauge → Axis → ℕ → ℤ
travel Encoder a x = turn x a.last
travel Scale a x = signed x -ℤ a.position

-- where the reading x puts the axis, in sixteenths
abbrev pub place : Gauge → Axis → ℕ → ℤ
place Encoder a x = a.position +ℤ pos 16 *ℤ turn x a.last
place Scale a x = signed x

abbrev pub moved : Gauge → Axis → ℕ → Axis
moved g a x = record { last = x; position = place g a x }

-- where an axis stands at its first reading
abbrev pub first_place : Gauge → ℕ → ℤ
first_place Encoder x = pos 0
first_place Scale x = signed x

abbrev pub start : Gauge → ℕ → Axis
start g x = record { last = x; position = first_place g x }

-- more than 24 bits of an encoder
abbrev pub too_wide : Gauge → ℕ → Bool
too_wide Encoder x = nat_le 16777216 x
too_wide Scale x = false

-- the size of z is greater than n
abbrev pub exceeds : ℕ → ℤ → Bool
exceeds n z = nat_lt n (unsigned_abs z)

abbrev pub width_refusal : Gauge → ℕ → Option Refusal
width_refusal g x = cond (too_wide g x) (Some ReadingTooWide) None

-- why the reading x is refused, if it is: by its width, then by its jump, then by where it puts the axis
abbrev pub reading_refusal : Gauge → ℕ → Axis → ℕ → Option Refusal
reading_refusal g most a x =
    cond (too_wide g x) (Some ReadingTooWide)
    (cond (exceeds most (travel g a x)) (Some JumpTooLarge)
    (cond (exceeds 1099511627776 (place g a x)) (Some PositionLimit) None))

-- the largest jump limit
abbrev pub most_jump : Gauge → ℕ
most_jump Encoder = 8388607
most_jump Scale = 2147483647

abbrev pub jump_refusal : Gauge → ℤ → Option Refusal
jump_refusal g j = cond (int_lt j (pos 1)) (Some OutOfRange) (cond (int_lt (pos (most_jump g)) j) (Some OutOfRange) None)

-- a value, unless it is refused
abbrev pub outcome : {E X : Type 0} → Option E → X → Result X E
outcome None x = Ok x
outcome (Some e) x = Err e
