-- A shift of a signed number rounds down, and how large the quotient is.
use Rattle.std.proofs.Common.{◌≡◌, ℕ, ◌*◌, ◌<◌, ◌≤◌, ℤ, pos, negsuc, nat_abs, refl, subst, mul_comm}
use Rattle.std.specs.Int.Signed.{shr_z}
use Rattle.std.proofs.Math.Nat.{div-le_of_le-mul}
use Rattle.std.proofs.lemmas.Nat.{div_below}
use Rattle.servo.specs.Clip.{floor}

pub shift_is : (z : ℤ) (k : ℕ) → shr_z z k ≡ floor z k
unfolding floor
shift_is (pos a) k = refl
shift_is (negsuc a) k = refl

pub floor_size : (z : ℤ) (k n : ℕ) → 0 < k → nat_abs z ≤ n * k → nat_abs (floor z k) ≤ n
unfolding floor
floor_size (pos a) k n p h = div-le_of_le-mul k (subst (λ x. a ≤ x) (mul_comm n k) h)
floor_size (negsuc a) k n p h = div_below a k n p h
