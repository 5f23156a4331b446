-- The laws of rounding, from those of the floor.
use Rattle.std.proofs.Common.{ℕ, ◌*◌, ◌<◌, ℤ, pos, negsuc, ◌+ℤ◌, ◌*ℤ◌, ◌≤ℤ◌, arith}
use Rattle.std.proofs.lemmas.Int.{ints, by_lt_z}
use Rattle.rounding.specs.Round.{rounded, Floor, Remainders, RoundsToNearest, RoundsWholeExactly, RoundsWithinBounds, RoundsInOrder, RoundsAlongShifts, RoundingLaws}
use Rattle.rounding.proofs.Floors.{floor_is, rem_is, rem_more, floor_one, scale_lt, spread}

-- the rounded quotient is the floor of (2n + d)/(2d)
pub rounded_floor : (n : ℤ) (k : ℕ) → 0 < k → Floor (pos 2 *ℤ n +ℤ pos k) (2 * k) (rounded n (pos k))
rounded_floor n k h = floor_is (pos 2 *ℤ n +ℤ pos k) (2 * k) (omega arith)

pub nearest : RoundsToNearest
nearest n (pos k) h =
    let p : 0 < k = omega (arith, ints) in
    let low = (rounded_floor n k p).low in
    let high = (rounded_floor n k p).high in
    (omega (arith, ints), omega (arith, ints))
nearest n (negsuc k) h = absurd (omega (arith, ints))

pub whole : RoundsWholeExactly
whole m (pos k) h =
    let p : 0 < k = omega (arith, ints) in
    floor_one (pos 2 *ℤ (pos k *ℤ m) +ℤ pos k) (2 * k) (rounded (pos k *ℤ m) (pos k)) m
    (rounded_floor (pos k *ℤ m) k p)
    (record { low = omega (arith, ints); high = omega (arith, ints) })
whole m (negsuc k) h = absurd (omega (arith, ints))

pub within : RoundsWithinBounds
within n (pos k) a b h i j =
    let p : 0 < k = omega (arith, ints) in
    let low = (rounded_floor n k p).low in
    let high = (rounded_floor n k p).high in (
      by_lt_z (rounded n (pos k)) a (λ l. absurd (omega (arith, ints, scale_lt k (rounded n (pos k)) a l))) (λ l. l),
      by_lt_z b (rounded n (pos k)) (λ l. absurd (omega (arith, ints, scale_lt k b (rounded n (pos k)) l))) (λ l. l),
    )
within n (negsuc k) a b h i j = absurd (omega (arith, ints))

-- the floor of a larger number is not lower
floor_order : (x y : ℤ) (k : ℕ) (q r : ℤ) → x ≤ℤ y → Floor x k q → Floor y k r → q ≤ℤ r
floor_order x y k q r h f g = by_lt_z r q (λ l. absurd (omega (arith, ints, scale_lt k r q l))) (λ l. l)

pub order : RoundsInOrder
order n m (pos k) h i =
    let p : 0 < k = omega (arith, ints) in
    floor_order (pos 2 *ℤ n +ℤ pos k) (pos 2 *ℤ m +ℤ pos k) (2 * k) (rounded n (pos k)) (rounded m (pos k))
    (omega (arith, ints)) (rounded_floor n k p) (rounded_floor m k p)
order n m (negsuc k) h i = absurd (omega (arith, ints))

pub shifts : RoundsAlongShifts
shifts n m (pos k) h =
    let p : 0 < k = omega (arith, ints) in
    let low = (rounded_floor n k p).low in
    let high = (rounded_floor n k p).high in
    let s = spread (pos (2 * k)) (rounded n (pos k)) m in
    floor_one (pos 2 *ℤ (n +ℤ pos k *ℤ m) +ℤ pos k) (2 * k) (rounded (n +ℤ pos k *ℤ m) (pos k)) (rounded n (pos k) +ℤ m)
    (rounded_floor (n +ℤ pos k *ℤ m) k p)
    (record { low = omega (arith, ints, s); high = omega (arith, ints, s) })
shifts n m (negsuc k) h = absurd (omega (arith, ints))

pub remainders : Remainders
remainders z k h =
    let f = floor_is z k h in
    let e = rem_is z k h in
    record { least = omega (arith, ints); most = omega (arith, ints); rest = omega (arith, ints); shifts = λ m. rem_more z m k h }

pub lawful : RoundingLaws
lawful = record { floors = floor_is; remainders = remainders; nearest = nearest; whole = whole; within = within; order = order; shifts = shifts }
