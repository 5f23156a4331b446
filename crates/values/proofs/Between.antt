-- What lies between two values.
use Rattle.std.proofs.Common.{◌≡◌, ℕ, ◌+◌, ◌-◌, ◌≤◌, ℤ, pos, ◌+ℤ◌, ◌*ℤ◌, ◌≤ℤ◌, arith}
use native.Mathlib.Nat.{sub-zero}
use lib.IntN.{*ℤ_comm, *ℤ-zero}
use Rattle.std.proofs.lemmas.Int.{ints}
use Rattle.rounding.proofs.Floors.{scale_le}
use Rattle.values.specs.Values.{between}

weights_low : (i j : ℕ) (a v w : ℤ) → a ≤ℤ v → a ≤ℤ w → (pos (i + j) *ℤ a) ≤ℤ (v *ℤ pos i +ℤ w *ℤ pos j)
weights_low i j a v w h k = omega (arith, ints, scale_le i a v h, scale_le j a w k)

weights_high : (i j : ℕ) (b v w : ℤ) → v ≤ℤ b → w ≤ℤ b → (v *ℤ pos i +ℤ w *ℤ pos j) ≤ℤ (pos (i + j) *ℤ b)
weights_high i j b v w h k = omega (arith, ints, scale_le i v b h, scale_le j w b k)

-- it is not below what both are not below, and not above what both are not above
pub between_low : (l f : ℕ) (a v w : ℤ) → f ≤ l → a ≤ℤ v → a ≤ℤ w → (pos l *ℤ a) ≤ℤ between l f v w
between_low l f a v w e h k = let s : l - f + f ≡ l = omega arith in rw s at (weights_low (l - f) f a v w h k)

pub between_high : (l f : ℕ) (b v w : ℤ) → f ≤ l → v ≤ℤ b → w ≤ℤ b → between l f v w ≤ℤ (pos l *ℤ b)
between_high l f b v w e h k = let s : l - f + f ≡ l = omega arith in rw s at (weights_high (l - f) f b v w h k)

-- at its start
pub between_start : (l : ℕ) (v w : ℤ) → between l 0 v w ≡ pos l *ℤ v
between_start l v w = rw (sub-zero l, *ℤ-zero w, *ℤ_comm v (pos l)) (omega (arith, ints))
