use Rattle.std.proofs.Common.{◌≡◌, map, refl}
use lib.Ieee.{of_bits, of_int, to_signed, add, sub, sum, mul, neg, lt, le, round, units, odd, size, climb, span}
use Rattle.servo.specs.Clip.{clipped, floor}
use Rattle.motor.specs.Cases.{cases, expected, played}
use Rattle.motor.proofs.cases.marked_cycles.Goals as goal

hold : map played cases ≡ map expected cases
unfolding clipped floor of_bits of_int to_signed add sub sum mul neg lt le round units odd size climb span
hold = refl

pub returns : goal.returns
returns x = hold
