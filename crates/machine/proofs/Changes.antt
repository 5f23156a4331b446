-- What a closing of one motor comes to.
use Rattle.std.proofs.Common.{◌≡◌, ◌≤◌, false, ℤ, nat_abs, refl, ap, ◌∙◌}
use Rattle.servo.specs.Clip.{clipped}
use Rattle.servo.proofs.Places.{clipped_same}
use Rattle.motor.specs.declared.state.State.{State}
use Rattle.motor.specs.declared.state.State.TheVariants.{Killed, Closed, Tripped}
use Rattle.motor.specs.declared.state.Event.TheVariants.{Closing}
use Rattle.motor.specs.States.{is_closed}
use Rattle.motor.specs.Motors.{MotorView, closed_at, taken, taken_in}

-- a motor that is not closed closes where it stands
closes_in : (s : State) (x : ℤ) (v : MotorView) → is_closed s ≡ false → taken_in s (Closing x) v ≡ closed_at (clipped 1099512152048 x) v
closes_in Killed x v h = refl
closes_in Closed x v h = cc
closes_in (Tripped c) x v h = refl

pub closes : (x : ℤ) (v : MotorView) → is_closed v.state ≡ false → nat_abs x ≤ 1099512152048 → taken (Closing x) v ≡ closed_at x v
closes x v h near = closes_in v.state x v h ∙ ap (λ z. closed_at z v) (clipped_same 1099512152048 x near)
