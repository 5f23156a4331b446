-- The causes of a trip by their numbers.
use Rattle.std.specs.Prelude.{ℕ}
use Rattle.servo.specs.declared.cause.Cause.{Cause}
use Rattle.servo.specs.declared.cause.Cause.TheVariants.{FollowingError, Integrator}

abbrev pub cause_number : Cause → ℕ
cause_number FollowingError = 1
cause_number Integrator = 2
