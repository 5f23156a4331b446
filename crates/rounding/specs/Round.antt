-- Rounding of a quotient to the nearest whole number, halves upwards.
use Rattle.std.specs.Prelude.{◌≡◌, ℕ, ◌^◌, ◌<◌, ℤ, pos, ◌+ℤ◌, ◌-ℤ◌, ◌*ℤ◌, neg_ℤ, ◌≤ℤ◌, ◌<ℤ◌}
use Rattle.std.specs.Int.{int_div_euclid, int_rem_euclid}

-- ⌊n/d + 1/2⌋, which is the floor of (2n + d)/(2d)
abbrev pub rounded : ℤ → ℤ → ℤ
rounded n d = int_div_euclid (pos 2 *ℤ n +ℤ d) (pos 2 *ℤ d)

-- which fractions there is room for
pub record FractionFits (n d : ℤ) : Type 0 where
  pub low : neg_ℤ (pos (2 ^ 60)) ≤ℤ n
  pub high : n ≤ℤ pos (2 ^ 60)
  pub positive : pos 1 ≤ℤ d
  pub small : d ≤ℤ pos (2 ^ 44)

-- q is the floor of z/k
pub record Floor (z : ℤ) (k : ℕ) (q : ℤ) : Type 0 where
  pub low : (pos k *ℤ q) ≤ℤ z
  pub high : z <ℤ (pos k *ℤ q +ℤ pos k)

-- the division that rounds down is the floor, and leaves a remainder from 0 to k - 1 that whole shifts do not change
abbrev pub Floors : Type 0
Floors = (z : ℤ) (k : ℕ) → 0 < k → Floor z k (int_div_euclid z (pos k))

pub record Remains (z : ℤ) (k : ℕ) : Type 0 where
  pub least : pos 0 ≤ℤ int_rem_euclid z (pos k)
  pub most : int_rem_euclid z (pos k) <ℤ pos k
  pub rest : z ≡ pos k *ℤ int_div_euclid z (pos k) +ℤ int_rem_euclid z (pos k)
  pub shifts : (m : ℤ) → int_rem_euclid (z +ℤ m *ℤ pos k) (pos k) ≡ int_rem_euclid z (pos k)

abbrev pub Remainders : Type 0
Remainders = (z : ℤ) (k : ℕ) → 0 < k → Remains z k

-- 2d times the rounded quotient is within d of 2n, so the error is at most one half; and it is never one half downwards, so halves go up
abbrev pub RoundsToNearest : Type 0
RoundsToNearest =
    (n d : ℤ) → pos 1 ≤ℤ d →
    ((pos 2 *ℤ d *ℤ rounded n d -ℤ pos 2 *ℤ n) ≤ℤ d) × (neg_ℤ d <ℤ (pos 2 *ℤ d *ℤ rounded n d -ℤ pos 2 *ℤ n))

-- a quotient that is whole is not changed
abbrev pub RoundsWholeExactly : Type 0
RoundsWholeExactly = (m d : ℤ) → pos 1 ≤ℤ d → rounded (d *ℤ m) d ≡ m

-- where n/d lies between two whole numbers, so does the rounded quotient
abbrev pub RoundsWithinBounds : Type 0
RoundsWithinBounds =
    (n d a b : ℤ) → pos 1 ≤ℤ d → (d *ℤ a) ≤ℤ n → n ≤ℤ (d *ℤ b) → (a ≤ℤ rounded n d) × (rounded n d ≤ℤ b)

-- a larger numerator does not round lower
abbrev pub RoundsInOrder : Type 0
RoundsInOrder = (n m d : ℤ) → pos 1 ≤ℤ d → n ≤ℤ m → rounded n d ≤ℤ rounded m d

-- m whole more before rounding is m more after it
abbrev pub RoundsAlongShifts : Type 0
RoundsAlongShifts = (n m d : ℤ) → pos 1 ≤ℤ d → rounded (n +ℤ d *ℤ m) d ≡ rounded n d +ℤ m

pub record RoundingLaws : Type 0 where
  pub floors : Floors
  pub remainders : Remainders
  pub nearest : RoundsToNearest
  pub whole : RoundsWholeExactly
  pub within : RoundsWithinBounds
  pub order : RoundsInOrder
  pub shifts : RoundsAlongShifts
