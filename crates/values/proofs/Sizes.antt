-- Products that stay small.
use Rattle.std.proofs.Common.{ℕ, ◌*◌, ◌/◌, ◌<◌, ◌≤◌, ℤ, pos, ◌*ℤ◌, nat_abs, mul_comm, mul-le-mul_left, arith}
use lib.IntN.{*ℤ_comm}
use Rattle.std.proofs.lemmas.Nat.{div_below}
use Rattle.std.proofs.lemmas.Int.{ints}
use Rattle.rounding.specs.Bounds.{Within}
use Rattle.rounding.proofs.Sums.{scale_within}

pub within_of : (m : ℕ) (v : ℤ) → nat_abs v ≤ m → Within m v
within_of m v h = (omega (arith, ints), omega (arith, ints))

pub size_of : (m : ℕ) (v : ℤ) → Within m v → nat_abs v ≤ m
size_of m v h = omega (arith, ints)

-- a value within m, by its weight
pub weighed : (v : ℤ) (m w : ℕ) → nat_abs v ≤ m → nat_abs (v *ℤ pos w) ≤ m * w
weighed v m w h = rw (mul_comm m w, *ℤ_comm v (pos w)) (size_of (w * m) (pos w *ℤ v) (scale_within w m v (within_of m v h)))

-- a phase below the span lies in one of its n parts
pub place_below : (q n l : ℕ) → q < l → 1 ≤ n → q * n / l < n
place_below q n l h i = div_below (q * n) l n (omega arith) (omega (arith, mul-le-mul_left n h))
