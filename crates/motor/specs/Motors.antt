-- A motor as plain numbers, and what changes it.
use Rattle.std.specs.Prelude.{Bool, false, cond, ℤ, pos, ◌-ℤ◌, Ok, Err, Result}
use Rattle.notch.specs.declared.notch.Notch.{Notch}
use Rattle.notch.specs.Filter.{rest, after, output}
use Rattle.servo.specs.declared.settings.GainSettings.{GainSettings}
use Rattle.servo.specs.declared.cause.Cause.{Cause}
use Rattle.servo.specs.Clip.{clipped}
use Rattle.servo.specs.Ranges.{at_limit, fresh_settings}
use Rattle.servo.specs.Memories.{Kept, memory_of, nothing, starting, sent_to}
use Rattle.servo.specs.Step.{answer, remembered}
use Rattle.motor.specs.declared.state.State.{State}
use Rattle.motor.specs.declared.state.State.TheVariants.{Killed, Closed, Tripped}
use Rattle.motor.specs.declared.state.Event.{Event}
use Rattle.motor.specs.declared.state.Event.TheVariants.{Closing, Kill, Trip}
use Rattle.motor.specs.declared.motor.Motor.{Motor}
use Rattle.motor.specs.States.{is_closed}

pub record MotorView : Type 0 where
  pub state : State
  pub correction : Bool
  pub gains : GainSettings
  pub memory : Kept
  pub notch : Notch
  pub output : ℤ

abbrev pub view : Motor → MotorView
view m =
    record { state = m.state; correction = m.correction; gains = m.gains.settings; memory = memory_of m.memory; notch = m.notch; output = m.output }

-- a motor that was not used yet
abbrev pub fresh : MotorView
fresh = record { state = Killed; correction = false; gains = fresh_settings; memory = nothing; notch = rest; output = pos 0 }

-- another state, with output and memory 0
abbrev pub stopped : State → MotorView → MotorView
stopped s m = record m { state = s; memory = nothing; notch = rest; output = pos 0 }

abbrev pub with_memory : Kept → MotorView → MotorView
with_memory a m = record m { memory = a }

-- closed at x
abbrev pub closed_at : ℤ → MotorView → MotorView
closed_at x m = with_memory (starting x) (stopped Closed m)

-- what an event does in a state: a kill in every one, a trip where the motor is closed, a closing at x where it is not
abbrev pub taken_in : State → Event → MotorView → MotorView
taken_in Killed Kill m = stopped Killed m
taken_in Closed Kill m = stopped Killed m
taken_in (Tripped c) Kill m = stopped Killed m
taken_in Killed (Trip c) m = m
taken_in Closed (Trip c) m = stopped (Tripped c) m
taken_in (Tripped d) (Trip c) m = m
taken_in Killed (Closing x) m = closed_at (clipped 1099512152048 x) m
taken_in Closed (Closing x) m = m
taken_in (Tripped c) (Closing x) m = closed_at (clipped 1099512152048 x) m

abbrev pub taken : Event → MotorView → MotorView
taken e m = taken_in m.state e m

-- a closed motor whose servo leaves the memory a and hands u to the notch
abbrev pub driven : Kept → ℤ → MotorView → MotorView
driven a u m =
    record m {
      state = Closed;
      memory = a;
      notch = after m.notch m.gains.notch m.gains.output_limit u;
      output = output m.notch m.gains.notch m.gains.output_limit u;
    }

-- by what its servo answers
abbrev pub acted_by : Result ℤ Cause → Kept → MotorView → MotorView
acted_by (Err c) a m = stopped (Tripped c) m
acted_by (Ok u) a m = driven a u m

-- a closed motor's cycle at x
abbrev pub acted : ℤ → MotorView → MotorView
acted x m =
    acted_by (answer m.gains m.memory (at_limit m.gains m.output) x)
    (remembered m.gains m.memory (at_limit m.gains m.output) x) m

abbrev pub stepped_in : State → ℤ → MotorView → MotorView
stepped_in Killed x m = m
stepped_in Closed x m = acted x m
stepped_in (Tripped c) x m = m

-- one cycle at x
abbrev pub stepped : ℤ → MotorView → MotorView
stepped x m = stepped_in m.state x m

-- with other gains, and sent to another target
abbrev pub given : GainSettings → MotorView → MotorView
given g m = record m { gains = g }

abbrev pub sent : ℤ → MotorView → MotorView
sent t m = with_memory (sent_to t m.memory) m

-- with its correction switched on or off
abbrev pub switched : Bool → MotorView → MotorView
switched on m = record m { correction = on }

-- how far a closed motor at x is from its target
abbrev pub following_error : ℤ → MotorView → ℤ
following_error x m = cond (is_closed m.state) (m.memory.target -ℤ x) (pos 0)
