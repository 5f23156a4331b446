-- A bank: which rows and which set-ups it refuses, and where it stands after the others.
use Rattle.std.specs.Prelude.{ℕ, ◌+◌, cond, List, [], ◌∷◌, length, map, ℤ, pos, Some, None, Ok, Err, Option, Result, ◌==◌, nat_lt}
use Rattle.faults.specs.Faults.{fault_of, on_axis}
use Rattle.faults.specs.declared.fault.Fault.{Fault}
use Rattle.faults.specs.declared.fault.Refusal.{Refusal}
use Rattle.faults.specs.declared.fault.Refusal.TheVariants.{OutOfRange, WrongLength}
use Rattle.faults.specs.declared.fault.Part.TheVariants.{Source}
use Rattle.source.specs.Meaning.{Seen, Meaning, Rows, no_axis}
use Rattle.gauges.specs.Gauges.{start, moved, width_refusal, reading_refusal, jump_refusal}
use Rattle.gauges.specs.declared.gauge.Axis.{Axis}
use Rattle.gauges.specs.declared.gauge.Gauge.{Gauge}
use Rattle.banks.specs.Axes.{axis_at, overlaid}

-- a refusal of the whole, or else what comes next
abbrev pub refused : Option Refusal → Option Fault → Option Fault
refused None next_one = next_one
refused (Some r) next_one = Some (fault_of Source r)

-- a refusal at an axis, or else what comes next
abbrev pub refused_at : ℕ → Option Refusal → Option Fault → Option Fault
refused_at i None next_one = next_one
refused_at i (Some r) next_one = Some (on_axis i (fault_of Source r))

-- the first bad reading of those from the axis i on, where f says why one is bad
abbrev pub first_bad : (ℕ → ℕ → Option Refusal) → ℕ → List ℕ → Option Fault
first_bad f i [] = None
first_bad f i (x ∷ xs) = refused_at i (f i x) (first_bad f (i + 1) xs)

-- a refusal of an axis, with the axis's name
abbrev pub named : ℕ → Result Axis Refusal → Result Axis Fault
named i (Ok a) = Ok a
named i (Err r) = Err (on_axis i (fault_of Source r))

-- why a first reading is bad, and why a later one
abbrev pub start_bad : Gauge → ℕ → ℕ → Option Refusal
start_bad g i x = width_refusal g x

abbrev pub row_bad : Gauge → ℕ → List Axis → ℕ → ℕ → Option Refusal
row_bad g most held i x = reading_refusal g most (axis_at held i) x

-- the axes after their first readings, and after a row
abbrev pub started : Gauge → List ℕ → List Axis
started g xs = map (start g) xs

abbrev pub placed : Gauge → List Axis → List ℕ → List Axis
placed g held row = overlaid (moved g) held row

abbrev pub length_refusal : ℕ → List ℕ → Option Refusal
length_refusal n row = cond (length row == n) None (Some WrongLength)

-- a row is refused by its length, then by its first bad reading
abbrev pub bank_refusal : Gauge → ℕ → ℕ → List Axis → List ℕ → Option Fault
bank_refusal g n most held row = refused (length_refusal n row) (first_bad (row_bad g most held) 0 row)

abbrev pub count_refusal : List ℕ → Option Refusal
count_refusal xs = cond (nat_lt 8 (length xs)) (Some OutOfRange) None

-- a set-up is refused by its jump limit, by the number of its readings, then by its first bad reading
abbrev pub set_up_refusal : Gauge → List ℕ → ℤ → Option Fault
set_up_refusal g xs j = refused (jump_refusal g j) (refused (count_refusal xs) (first_bad (start_bad g) 0 xs))

-- what was refused leaves the old value
abbrev pub unless : {X : Type 0} → Option Fault → X → X → X
unless None old new = new
unless (Some f) old new = old

-- an axis that the bank does not have
abbrev pub absence : ℕ → ℕ → Option Fault
absence n a = cond (nat_lt a n) None (Some (no_axis a))

-- the axes after these rows, oldest first; a refused one changes nothing
abbrev pub standing : Gauge → ℕ → ℕ → List Axis → Rows → List Axis
standing g n most held [] = held
standing g n most held (r ∷ rs) = standing g n most (unless (bank_refusal g n most held r) held (placed g held r)) rs

abbrev pub bank_seen : Gauge → ℕ → ℕ → List Axis → Seen
bank_seen g n most held =
    record { axes = n; depth = 0; bare = λ a. (axis_at held a).position; offset = λ _. pos 0; refusal = bank_refusal g n most held }

abbrev pub bank_means : Gauge → ℕ → ℕ → List Axis → Meaning
bank_means g n most held = λ rs. bank_seen g n most (standing g n most held rs)
