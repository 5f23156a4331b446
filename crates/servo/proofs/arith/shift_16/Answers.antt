use Rattle.std.proofs.Common.{◌^◌, ◌≤◌, nat_abs, arith, lit<, w64, SFits}
use borrow.Author.Differences.{ints}
use Rattle.std.proofs.lemmas.Int.{to_z-of_z}
use Rattle.servo.specs.Clip.{floor}
use Rattle.servo.proofs.Shifts.{shift_is, floor_size}
use Rattle.servo.proofs.arith.shift_16.Goals as goal

pub returns : goal.returns
returns c =
    let s : nat_abs (floor c.args.z 65536) ≤ 2 ^ 30 = floor_size c.args.z 65536 (2 ^ 30) (lit< tt) c.requires in
    let f : SFits w64 (floor c.args.z 65536) = omega (arith, ints) in
    record { value = simp (to_z-of_z, shift_is, c.ranges.z, f); size = simp (to_z-of_z, shift_is, c.ranges.z, f) s }
