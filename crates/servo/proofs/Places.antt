-- A place is where it is asked to be, as far as places reach.
use Rattle.std.proofs.Common.{◌≡◌, ℕ, ◌≤◌, ℤ, nat_abs, arith}
use borrow.Author.Differences.{ints}
use Rattle.std.proofs.lemmas.Int.{clamps}
use Rattle.servo.specs.Clip.{clipped}

pub clipped_same : (b : ℕ) (z : ℤ) → nat_abs z ≤ b → clipped b z ≡ z
unfolding clipped
clipped_same b z h = omega (arith, ints, clamps)
