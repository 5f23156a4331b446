-- The calls of a mill: when each is refused and with what, and what it leaves. The axis is looked at first, then ranges, then the state.
use Rattle.std.specs.Prelude.{ℕ, Bool, cond, List, [], ◌∷◌, map, length, take, ℤ, Some, None, Ok, Err, Option, Result, ◌==◌, nat_lt, unsigned_abs}
use Rattle.faults.specs.declared.fault.Fault.{Fault}
use Rattle.faults.specs.declared.fault.Part.TheVariants.{Machine}
use Rattle.faults.specs.declared.fault.Refusal.TheVariants.{OutOfRange, NoSuchAxis, WrongLength, AxisClosed, AxisNotClosed}
use Rattle.faults.specs.Faults.{fault_of}
use Rattle.source.specs.Meaning.{past}
use Rattle.servo.specs.declared.settings.GainSettings.{GainSettings}
use Rattle.servo.specs.Ranges.{fits}
use Rattle.motor.specs.declared.state.State.TheVariants.{Killed}
use Rattle.motor.specs.States.{is_closed}
use Rattle.motor.specs.Motors.{stopped, closed_at, given, sent, switched, following_error}
use Rattle.mill.specs.declared.report.Report.{Report}
use Rattle.mill.specs.Mills.{Mill, seen, motor_at, with_motor, position_at, machine_fault, first, unless, stepped_all, output_of}

-- the checks: 3 for an absent axis, 10 for a closed one, 11 for one that is not closed
abbrev pub absent : ℕ → Mill → Option Fault
absent a m = cond (nat_lt a (seen m).axes) None (Some (machine_fault NoSuchAxis a))

abbrev pub closed : ℕ → Mill → Option Fault
closed a m = cond (is_closed (motor_at a m).state) (Some (machine_fault AxisClosed a)) None

abbrev pub not_closed : ℕ → Mill → Option Fault
not_closed a m = cond (is_closed (motor_at a m).state) None (Some (machine_fault AxisNotClosed a))

-- 2 for gains out of range, and for a target beyond the position limit
abbrev pub unfit : ℕ → GainSettings → Option Fault
unfit a g = cond (fits g) None (Some (machine_fault OutOfRange a))

abbrev pub is_far : ℤ → Bool
is_far t = nat_lt 1099511627776 (unsigned_abs t)

abbrev pub too_far : ℕ → ℤ → Option Fault
too_far a t = cond (is_far t) (Some (machine_fault OutOfRange a)) None

-- setting gains, while the axis is not closed
abbrev pub gains_refusal : ℕ → GainSettings → Mill → Option Fault
gains_refusal a g m = first (absent a m) (first (unfit a g) (closed a m))

abbrev pub gains_set : ℕ → GainSettings → Mill → Mill
gains_set a g m = unless (gains_refusal a g m) m (with_motor a (given g (motor_at a m)) m)

-- closing an axis that is not closed, where it stands
abbrev pub close_refusal : ℕ → Mill → Option Fault
close_refusal a m = first (absent a m) (closed a m)

abbrev pub closes : ℕ → Mill → Mill
closes a m = unless (close_refusal a m) m (with_motor a (closed_at (position_at a m) (motor_at a m)) m)

-- a kill, which a present axis always takes
abbrev pub kills : ℕ → Mill → Mill
kills a m = unless (absent a m) m (with_motor a (stopped Killed (motor_at a m)) m)

-- sending a closed axis to a target
abbrev pub target_refusal : ℕ → ℤ → Mill → Option Fault
target_refusal a t m = first (absent a m) (first (too_far a t) (not_closed a m))

abbrev pub targets : ℕ → ℤ → Mill → Mill
targets a t m = unless (target_refusal a t m) m (with_motor a (sent t (motor_at a m)) m)

-- switching the correction of an axis
abbrev pub switches : ℕ → Bool → Mill → Mill
switches a on m = unless (absent a m) m (with_motor a (switched on (motor_at a m)) m)

-- a question
abbrev pub report : ℕ → Mill → Report
report a m =
    record {
      bare = (seen m).bare a;
      offset = (seen m).offset a;
      position = position_at a m;
      following_error = following_error (position_at a m) (motor_at a m);
      state = (motor_at a m).state;
      output = (motor_at a m).output;
    }

abbrev pub result_of : {A : Type 0} → Option Fault → A → Result A Fault
result_of None x = Ok x
result_of (Some f) x = Err f

abbrev pub question_answer : ℕ → Mill → Result Report Fault
question_answer a m = result_of (absent a m) (report a m)

-- a cycle: the lent row has one place an axis, which is looked at before the source is asked
abbrev pub wrong_length : ℕ → Mill → Option Fault
wrong_length n m = cond (n == (seen m).axes) None (Some (fault_of Machine WrongLength))

abbrev pub cycle_refusal : List ℕ → ℕ → Mill → Option Fault
cycle_refusal row n m = first (wrong_length n m) ((seen m).refusal row)

-- an accepted one: the source takes the row, and each motor steps where it then is
abbrev pub cycled : List ℕ → Mill → Mill
cycled row m = record { means = past m.means row; motors = stepped_all (m.means (row ∷ [])) 0 m.motors }

abbrev pub cycles : List ℕ → ℕ → Mill → Mill
cycles row n m = unless (cycle_refusal row n m) m (cycled row m)

-- what each axis then puts out
abbrev pub outputs : List ℕ → Mill → List ℤ
outputs row m = map output_of (take (seen m).axes (cycled row m).motors)

-- the lent row after a cycle
abbrev pub row_after : List ℕ → List ℤ → Mill → List ℤ
row_after row out m = unless (cycle_refusal row (length out) m) out (outputs row m)
