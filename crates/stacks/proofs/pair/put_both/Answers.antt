use Rattle.std.proofs.Common.{ap, ◌∙◌}
use Rattle.source.specs.Meaning.{Meaning}
use Rattle.backlash.specs.BacklashLayers.{backlash_put}
use Rattle.stacks.proofs.pair.put_both.Goals as goal

pub returns : goal.returns
returns g c = c.put_backlash.ensures ∙ ap (λ (m : Meaning). backlash_put c.args.backlash m) c.put.ensures
