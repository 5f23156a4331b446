-- Mills that are alike but for a shift.
use Rattle.std.proofs.Common.{◌≡◌, ℕ, ◌+◌, cond, List, [], ◌∷◌, ℤ, ◌+ℤ◌}
use Rattle.servo.specs.Memories.{Kept}
use Rattle.motor.specs.States.{is_closed}
use Rattle.motor.specs.Motors.{MotorView}
use Rattle.mill.specs.Mills.{Mill, seen}
use Rattle.stacks.specs.StackLaws.{Matching}
use Rattle.mills_law.specs.Pairs.{Shift}

-- positions further by k; velocity and integrator the same
abbrev pub further : ℤ → Kept → Kept
further k a =
    record { target = a.target +ℤ k; last_target = a.last_target +ℤ k; last_position = a.last_position +ℤ k; last_velocity = a.last_velocity; integrator = a.integrator }

-- the same motor k further on: a closed one remembers positions, one that is not closed remembers none
abbrev pub shifted : ℤ → MotorView → MotorView
shifted k v =
    record {
      state = v.state;
      correction = v.correction;
      gains = v.gains;
      memory = cond (is_closed v.state) (further k v.memory) v.memory;
      notch = v.notch;
      output = v.output;
    }

-- each motor from the axis i on
abbrev pub shifted_all : Shift → ℕ → List MotorView → List MotorView
shifted_all K i [] = []
shifted_all K i (v ∷ vs) = shifted (K i) v ∷ shifted_all K (i + 1) vs

pub record MillsLike (K : Shift) (e w : Mill) : Type 0 where
  pub seen : Matching K (seen e) (seen w)
  pub motors : w.motors ≡ shifted_all K 0 e.motors
