-- The cycle of a motor by whether it is closed.
use Rattle.std.proofs.Common.{◌≡◌, cond, ℤ, refl}
use Rattle.motor.specs.declared.state.State.{State}
use Rattle.motor.specs.declared.state.State.TheVariants.{Killed, Closed, Tripped}
use Rattle.motor.specs.States.{is_closed}
use Rattle.motor.specs.Motors.{MotorView, acted, stepped_in}

pub either : (s : State) (x : ℤ) (v : MotorView) → stepped_in s x v ≡ cond (is_closed s) (acted x v) v
either Killed x v = refl
either Closed x v = refl
either (Tripped c) x v = refl
