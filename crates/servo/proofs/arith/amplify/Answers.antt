use Rattle.std.proofs.Common.{◌*◌, ◌^◌, ◌≤◌, ◌*ℤ◌, nat_abs, le_of_lt, arith, lit<, w64, SFits}
use borrow.Author.Differences.{ints}
use Rattle.std.proofs.lemmas.Nat.{mul-le}
use Rattle.std.proofs.lemmas.Int.{to_z-of_z, fits_signed_mul, unsigned_abs-mul}
use Rattle.servo.specs.Clip.{floor}
use Rattle.servo.proofs.Shifts.{shift_is, floor_size}
use Rattle.servo.proofs.arith.amplify.Goals as goal

pub overflow_mul-result : goal.overflow_mul-result
overflow_mul-result c =
    simp (to_z-of_z, c.ranges.kp, c.ranges.m) (fits_signed_mul w64 c.args.kp c.args.m (2 ^ 23) (2 ^ 38) c.requires.gain (le_of_lt c.requires.size) (lit< tt))

pub returns : goal.returns
returns c =
    let p = c.args.kp *ℤ c.args.m in
    let f = fits_signed_mul w64 c.args.kp c.args.m (2 ^ 23) (2 ^ 38) c.requires.gain (le_of_lt c.requires.size) (lit< tt) in
    let s : nat_abs p ≤ 2 ^ 38 * 8388608 = rw unsigned_abs-mul (mul-le _ _ (2 ^ 23) (2 ^ 38) c.requires.gain (le_of_lt c.requires.size)) in
    let q : nat_abs (floor p 8388608) ≤ 2 ^ 38 = floor_size p 8388608 (2 ^ 38) (lit< tt) s in
    let h : SFits w64 (floor p 8388608) = omega (arith, ints) in
    simp (to_z-of_z, shift_is, c.ranges.kp, c.ranges.m, f, h)
