use Rattle.std.proofs.Common.{◌≡◌, Ok, to_z, of_z, ◌^◌, ◌≤◌, nat_abs, sym, ap, ◌∙◌, arith, w32, w64, SFits, rules}
use Rattle.std.proofs.lemmas.Int.{to_z-of_z}
use Rattle.std.proofs.lemmas.Bool.{true≢false}
use Rattle.notch.specs.Filter.{after, output}
use Rattle.servo.specs.Ranges.{at_limit}
use Rattle.servo.specs.Memories.{memory_of}
use Rattle.servo.specs.Step.{answer, remembered}
use Rattle.motor.specs.Motors.{acted_by, driven, view}
use Rattle.motor.specs.States.{is_closed}
use Rattle.motor.proofs.motor.Motor.act.Goals as goal

pub invariant_of-self : goal.invariant_of-self
invariant_of-self c =
    let limit = c.args.self.now.gains.settings.output_limit in
    let fl : SFits w64 limit = search rules in
    let fo : SFits w32 c.filter-self.result = search rules in
    let small : nat_abs limit ≤ 2 ^ 53 = omega (arith, c.args.self.now.gains.sizes.output_limit) in
    record {
      limited = simp (to_z-of_z, fo) ((simp (to_z-of_z, fl) at c.filter-self.ensures.bound) small);
      still = λ h. absurd (true≢false (ap is_closed (sym c.requires) ∙ h));
    }

pub returns-in-Ok-clause-next : goal.returns-in-Ok-clause-next
returns-in-Ok-clause-next c =
    let m = c.args.self.now in
    let g = m.gains.settings in
    let full = at_limit g m.output in
    let a : answer g (memory_of m.memory) full c.args.x.at ≡ Ok c.in-Ok.u = search rules in
    let r : memory_of c.step.new.self ≡ remembered g (memory_of m.memory) full c.args.x.at = search rules in
    let n : c.filter-self.new.self ≡ after m.notch g.notch g.output_limit c.in-Ok.u = search rules in
    let o : to_z w32 (of_z w32 c.filter-self.result) ≡ output m.notch g.notch g.output_limit c.in-Ok.u = search rules in
    let d = driven (remembered g (memory_of m.memory) full c.args.x.at) c.in-Ok.u (view m) in
    ◌∙◌ {b = d} (λ i. record { state = c.requires i; correction = m.correction; gains = g; memory = r i; notch = n i; output = o i })
    (ap (λ x. acted_by x (remembered g (memory_of m.memory) full c.args.x.at) (view m)) (sym a))
