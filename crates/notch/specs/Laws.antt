-- The laws of the filter, for every memory, NaN and infinities too.
use Rattle.std.specs.Prelude.{◌^◌, ◌≤◌, not, ℤ, unsigned_abs}
use Rattle.std.specs.Int.Signed.{non_neg}
use Rattle.std.specs.Float.Ieee.Exact.{HasValue}
use Rattle.notch.specs.Filter.{coefficient, output}
use Rattle.notch.specs.declared.notch.Coefficients.{Coefficients}
use Rattle.notch.specs.declared.notch.Notch.{Notch}

-- no output is larger than the limit
abbrev pub StaysLimited : Type 0
StaysLimited = (m : Notch) (c : Coefficients) (o u : ℤ) → unsigned_abs o ≤ 2 ^ 53 → unsigned_abs (output m c o u) ≤ unsigned_abs o

-- a coefficient as a float is the whole number times 2 ^ -20, with nothing lost
abbrev pub CoefficientsExact : Type 0
CoefficientsExact = (n : ℤ) → unsigned_abs n ≤ 2 ^ 21 → HasValue (coefficient n) (not (non_neg n)) (unsigned_abs n) (2 ^ 20)

pub record NotchLaws : Type 0 where
  pub limited : StaysLimited
  pub exact : CoefficientsExact
