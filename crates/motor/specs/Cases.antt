-- Marked servo cycles.
use Rattle.std.specs.Prelude.{ℕ, zero, suc, List, [], ◌∷◌, ℤ, pos, negsuc}
use Rattle.servo.specs.declared.settings.GainSettings.{GainSettings}
use Rattle.servo.specs.declared.cause.Cause.TheVariants.{FollowingError, Integrator}
use Rattle.motor.specs.declared.state.State.{State}
use Rattle.motor.specs.declared.state.State.TheVariants.{Closed, Tripped}
use Rattle.motor.specs.Motors.{MotorView, fresh, given, closed_at, sent, stepped}

-- gains, the following error of the first cycle, how many cycles there are, and the output and the state after them
pub record Case : Type 0 where
  pub gains : GainSettings
  pub error : ℤ
  pub cycles : ℕ
  pub output : ℤ
  pub state : State

-- kp, ki, the error, integrator, following error and output limits; the rest is 0
abbrev pub tuned : ℤ → ℤ → ℤ → ℤ → ℤ → ℤ → GainSettings
tuned kp ki e g f o =
    record {
      kp = kp;
      kd = pos 0;
      kv = pos 0;
      ka = pos 0;
      ki = ki;
      error_limit = e;
      integrator_limit = g;
      following_limit = f;
      output_limit = o;
      notch = record { n1 = pos 0; n2 = pos 0; d1 = pos 0; d2 = pos 0 };
    }

abbrev pub cycled : ℕ → MotorView → MotorView
cycled zero m = m
cycled (suc n) m = stepped (pos 0) (cycled n m)

-- a fresh motor with these gains, closed at 0 and sent to the error, which stays at 0
abbrev pub run : Case → MotorView
run c = cycled c.cycles (sent c.error (closed_at (pos 0) (given c.gains fresh)))

abbrev pub played : Case → ℤ × State
played c = ((run c).output, (run c).state)

abbrev pub expected : Case → ℤ × State
expected c = (c.output, c.state)

abbrev pub proportional : ℤ → ℤ → State → Case
proportional e o s =
    record { gains = tuned (pos 65536) (pos 0) (pos 1000) (pos 0) (pos 16000) (pos 100); error = e; cycles = 1; output = o; state = s }

abbrev pub integral : ℕ → State → Case
integral n s =
    record { gains = tuned (pos 0) (pos 1) (pos 1000) (negsuc 99) (pos 1000) (pos 1); error = pos 60; cycles = n; output = pos 0; state = s }

abbrev pub cases : List Case
cases =
    proportional (pos 50) (pos 50) Closed
    ∷ proportional (pos 16000) (pos 100) Closed
    ∷ proportional (pos 16001) (pos 0) (Tripped FollowingError)
    ∷ proportional (negsuc 49) (negsuc 49) Closed
    ∷ proportional (negsuc 15999) (negsuc 99) Closed
    ∷ proportional (negsuc 16000) (pos 0) (Tripped FollowingError)
    ∷ integral 1 Closed
    ∷ integral 2 (Tripped Integrator)
    ∷ []
