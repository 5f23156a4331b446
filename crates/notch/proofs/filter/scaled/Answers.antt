use Rattle.std.proofs.Common.{◌≡◌, false, negsuc, refl, rules}
use lib.Ieee.{fin, binary64, of_int, of_bits}
use Rattle.notch.proofs.filter.scaled.Goals as goal

unit_is : of_bits binary64 4517110426252607488 ≡ fin false 1 (negsuc 19)
unfolding of_bits
unit_is = refl

pub returns : goal.returns
returns c = let e : c.nearest_i64_to_f64.result ≡ of_int binary64 c.args.n = search rules in cc unit_is
