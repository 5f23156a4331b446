use Rattle.std.proofs.Common.{◌≡◌, ℤ, ◌+ℤ◌, sym, ap, ◌∙◌, subst, w64, SFits, rules}
use Rattle.std.proofs.lemmas.Int.{to_z-of_z}
use Rattle.std.specs.Int.{saturate_to_bits}
use Rattle.mill.specs.Runs.{target}
use Rattle.mills_law.specs.Pairs.{shift_of}
use Rattle.pair.specs.PairCalls.{ActsAlike}
use Rattle.pair.proofs.Targets.{saturated_alike}
use Rattle.pair.proofs.pair_call.west_target.Goals as goal

pub returns : goal.returns
returns c =
    let a = c.args.axis in
    let z = c.args.target +ℤ shift_of c.args.shift.now a in
    let ft : SFits w64 c.args.target = c.ranges.target in
    let fk : SFits w64 c.shift_at.result = search rules in
    let fr : SFits w64 c.saturating_add.result = search rules in
    let sum : c.saturating_add.result ≡ saturate_to_bits 63 (c.args.target +ℤ c.shift_at.result) = simp to_z-of_z at c.saturating_add.ensures in
    let e = to_z-of_z w64 c.saturating_add.result fr ∙ sum ∙ ap (λ (k : ℤ). saturate_to_bits 63 (c.args.target +ℤ k)) c.shift_at.ensures in
    subst (λ (x : ℤ). ActsAlike (target a x) (target a z)) (sym e) (saturated_alike a z)
