use Rattle.std.proofs.Common.{◌≡◌, ◌<◌, ◌++◌, [], ◌∷◌, length, ap, ◌∙◌, arith}
use Rattle.filled.specs.Items.{items}
use Rattle.headings.specs.Heads.{head_of, in_range}
use Rattle.headings.proofs.Capacities.{few}
use Rattle.sheets.specs.Tables.{begun}
use Rattle.sheets.proofs.Entering.{enters, stored, range_push}
use Rattle.sheets.proofs.begun.Begun.store.Goals as goal

pub invariant_of-self : goal.invariant_of-self
invariant_of-self c =
    let b = c.args.self.now in
    let z = c.args.value in
    let h = enters (begun b) z c.requires in
    let room : length (items b.entries) < 288 = omega (arith, h.0, few b.heading) in
    let new : items c.push.new.self ≡ items b.entries ++ z ∷ [] = stored (items b.entries) (items c.push.new.self) z c.ranges.value h.1 room c.push.ensures in
    record { narrow = ap in_range new ∙ range_push (items b.entries) z b.narrow h.1 }

pub returns : goal.returns
returns c =
    let b = c.args.self.now in
    let z = c.args.value in
    let h = enters (begun b) z c.requires in
    let room : length (items b.entries) < 288 = omega (arith, h.0, few b.heading) in
    ap (λ es. record { head = head_of b.heading; entries = es }) (stored (items b.entries) (items c.push.new.self) z c.ranges.value h.1 room c.push.ensures)
