-- A value is the nearest whole number.
use Rattle.std.proofs.Common.{ℕ, ◌≤◌, ℤ, pos, ◌-ℤ◌, ◌*ℤ◌, arith}
use Rattle.std.proofs.lemmas.Int.{ints}
use Rattle.rounding.specs.Bounds.{Within}
use Rattle.rounding.specs.Round.{rounded}
use Rattle.rounding.proofs.RoundingLaws as laws
use Rattle.values.specs.Values.{numerator, denominator}
use Rattle.values.specs.ValueLaws.{ValueHalf}
use Rattle.values.proofs.Ranges.{positive}

rounded_half : (d : ℕ) (n : ℤ) → 1 ≤ d → Within d (pos 2 *ℤ (pos d *ℤ rounded n (pos d)) -ℤ pos 2 *ℤ n)
rounded_half d n h =
    let e = laws.nearest n (pos d) (omega (arith, ints)) in
    (omega (arith, ints, e.1), omega (arith, ints, e.0))

pub value_half : ValueHalf
value_half t p q h = rounded_half (denominator t) (numerator t p q) (positive t.head h.heading)
