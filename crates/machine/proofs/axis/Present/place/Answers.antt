use Rattle.std.proofs.Common.{◌+ℤ◌, sym, ap, ◌∙◌, arith, w64, SFits, rules}
use borrow.Author.Differences.{ints}
use Rattle.std.proofs.lemmas.Bool.{cond-true}
use Rattle.std.proofs.lemmas.Int.{to_z-of_z}
use Rattle.motor.specs.Motors.{MotorView}
use Rattle.machine.proofs.axis.Present.place.Goals as goal

pub returns-then-motor : goal.returns-then-motor
returns-then-motor g c =
    let fb : SFits w64 c.bare-bare.result = search rules in
    let fo : SFits w64 c.offset.result = search rules in
    let fs : SFits w64 (c.bare-bare.result +ℤ c.offset.result) = omega (arith, ints, c.bare-bare.ensures.near, c.offset.ensures.near) in
    let sum = simp to_z-of_z at c.standing.ensures ∙ (λ i. c.bare-bare.ensures.value i +ℤ c.offset.ensures.value i) in
    sum ∙ sym (cond-true _ _ _ (sym (ap (λ (v : MotorView). v.correction) c.motor.ensures) ∙ c.if-motor.true))
