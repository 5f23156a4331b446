use Rattle.std.proofs.Common.{◌≡◌, pos, arith, w64, to_z, of_z}
use Rattle.std.proofs.lemmas.Int.{ints}
use Rattle.values.proofs.Sizes.{weighed}
use Rattle.values.proofs.interpolation.weigh.Goals as goal

pub overflow_mul-result : goal.overflow_mul-result
overflow_mul-result g c =
    let x : to_z w64 (of_z w64 c.args.value) ≡ c.args.value = omega (arith, ints) in
    let y : to_z w64 (of_z w64 c.from.result) ≡ pos c.args.weight = omega (arith, ints, c.from.ensures) in
    let n = weighed c.args.value g.row.LIMIT c.args.weight c.requires.value in
    simp (x, y) (omega (arith, ints))

pub returns : goal.returns
returns g c =
    let x : to_z w64 (of_z w64 c.args.value) ≡ c.args.value = omega (arith, ints) in
    let y : to_z w64 (of_z w64 c.from.result) ≡ pos c.args.weight = omega (arith, ints, c.from.ensures) in
    let n = weighed c.args.value g.row.LIMIT c.args.weight c.requires.value in
    simp (x, y) (record { value = omega (arith, ints); size = omega (arith, ints) })
