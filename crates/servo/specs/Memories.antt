-- What a servo remembers, as plain numbers.
use Rattle.std.specs.Prelude.{ℤ, pos}
use Rattle.servo.specs.declared.memory.Memory.{Memory}

pub record Kept : Type 0 where
  pub target : ℤ
  pub last_target : ℤ
  pub last_position : ℤ
  pub last_velocity : ℤ
  pub integrator : ℤ

abbrev pub memory_of : Memory → Kept
memory_of a =
    record {
      target = a.target.at;
      last_target = a.last_target.at;
      last_position = a.last_position.at;
      last_velocity = a.last_velocity.at;
      integrator = a.integrator;
    }

-- the memory of an axis that is not closed
abbrev pub nothing : Kept
nothing = record { target = pos 0; last_target = pos 0; last_position = pos 0; last_velocity = pos 0; integrator = pos 0 }

-- closed at x
abbrev pub starting : ℤ → Kept
starting x = record { target = x; last_target = x; last_position = x; last_velocity = pos 0; integrator = pos 0 }

abbrev pub sent_to : ℤ → Kept → Kept
sent_to t a = record a { target = t }
