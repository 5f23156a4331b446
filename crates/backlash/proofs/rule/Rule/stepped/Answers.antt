use Rattle.std.proofs.Common.{◌≡◌, rules}
use Rattle.backlash.specs.TakeUps.{stepped}
use Rattle.backlash.specs.Taking.{stepped_near, stepped_held}
use Rattle.backlash.proofs.rule.Rule.stepped.Goals as goal

pub returns-then-is_back : goal.returns-then-is_back
returns-then-is_back c =
    let a = c.args in
    let v : c.going.result ≡ stepped a.self.backlash a.stand a.position = search rules in
    record { value = v; near = λ h. rw v (stepped_near a.self.backlash a.stand a.position a.self.in_range h); held = λ h k. rw v (stepped_held a.self.backlash a.stand a.position h k) }

pub returns-else-is_back : goal.returns-else-is_back
returns-else-is_back c =
    let a = c.args in
    let v : c.going-else-is_back.result ≡ stepped a.self.backlash a.stand a.position = search rules in
    record { value = v; near = λ h. rw v (stepped_near a.self.backlash a.stand a.position a.self.in_range h); held = λ h k. rw v (stepped_held a.self.backlash a.stand a.position h k) }
