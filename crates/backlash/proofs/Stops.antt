-- The steps of the rule, in numbers that stop at the ends of their type.
use Rattle.std.proofs.Common.{◌≡◌, ◌^◌, ℤ, pos, negsuc, ◌+ℤ◌, ◌-ℤ◌, neg_ℤ, ◌≤ℤ◌, ◌<ℤ◌, arith, w64, SFits}
use Rattle.std.specs.Int.{int_max, int_min, saturate_signed}
use Rattle.std.proofs.lemmas.Int.{ints, clamps}

-- a sum that stops at the top, which no goal is above
up_to_end : (v g : ℤ) → neg_ℤ (pos (2 ^ 63)) ≤ℤ v → g <ℤ pos (2 ^ 63) → int_min (saturate_signed w64 v) g ≡ int_min v g
up_to_end (pos n) g low top = grind (arith, ints, clamps)
up_to_end (negsuc n) g low top = grind (arith, ints, clamps)

pub up_to : (z r g : ℤ) → SFits w64 z → SFits w64 g → pos 0 ≤ℤ r → int_min (saturate_signed w64 (z +ℤ r)) g ≡ int_min (z +ℤ r) g
up_to z r g fz fg h = up_to_end (z +ℤ r) g (omega (arith, ints)) (omega (arith, ints))

-- a difference that stops at the bottom
down_to_end : (v g : ℤ) → v <ℤ pos (2 ^ 63) → neg_ℤ (pos (2 ^ 63)) ≤ℤ g → int_max (saturate_signed w64 v) g ≡ int_max v g
down_to_end (pos n) g top low = grind (arith, ints, clamps)
down_to_end (negsuc n) g top low = grind (arith, ints, clamps)

pub down_to : (z r g : ℤ) → SFits w64 z → SFits w64 g → pos 0 ≤ℤ r → int_max (saturate_signed w64 (z -ℤ r)) g ≡ int_max (z -ℤ r) g
down_to z r g fz fg h = down_to_end (z -ℤ r) g (omega (arith, ints)) (omega (arith, ints))
