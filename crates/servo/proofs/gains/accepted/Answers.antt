use Rattle.servo.proofs.Sizes.{sizes}
use Rattle.servo.proofs.gains.accepted.Goals as goal

pub invariant_of-result : goal.invariant_of-result
invariant_of-result c = record { ranged = c.requires; sizes = sizes c.args.settings c.requires }
