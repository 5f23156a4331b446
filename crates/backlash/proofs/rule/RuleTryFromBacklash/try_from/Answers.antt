use Rattle.std.proofs.Common.{rules}
use Rattle.backlash.specs.TakeUps.{ranges}
use Rattle.backlash.proofs.rule.RuleTryFromBacklash.try_from.Goals as goal

pub returns-in_default : goal.returns-in_default
unfolding ranges
returns-in_default c = search rules
