use Rattle.std.proofs.Common.{arith}
use Rattle.std.proofs.lemmas.Int.{ints, to_z-of_z}
use Rattle.backlash.proofs.Stops.{up_to, down_to}
use Rattle.backlash.proofs.rule.Rule.toward.Goals as goal

pub returns-then-amount-goal : goal.returns-then-amount-goal
returns-then-amount-goal c = grind (arith, ints, to_z-of_z, up_to)

pub returns-else-amount-goal : goal.returns-else-amount-goal
returns-else-amount-goal c = grind (arith, ints, to_z-of_z, down_to)
