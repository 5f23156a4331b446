use Rattle.std.proofs.Common.{◌≡◌, ◌+ℤ◌, ◌*ℤ◌, ap, ◌∙◌, arith, rules, w64, SFits}
use borrow.Author.Differences.{ints}
use Rattle.std.proofs.lemmas.Int.{to_z-of_z}
use Rattle.servo.proofs.cycle.Cycle.accumulate.Goals as goal

pub returns : goal.returns
returns c =
    let s = c.args.self.now.before in
    let ki = c.args.self.now.gains.now.settings.ki in
    let t : c.times.result ≡ ki *ℤ c.error.result.at = search rules in
    let f : SFits w64 s.integrator = search rules in
    let g : SFits w64 c.times.result = search rules in
    let h : SFits w64 (s.integrator +ℤ c.times.result) = omega (arith, ints, s.bounded, c.times.ensures.size) in
    simp (to_z-of_z, f, g, h) (ap (λ x. s.integrator +ℤ x) (t ∙ ap (λ x. ki *ℤ x) c.error.ensures))
