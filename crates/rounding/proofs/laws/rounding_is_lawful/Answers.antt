use Rattle.rounding.proofs.RoundingLaws.{lawful}
use Rattle.rounding.proofs.laws.rounding_is_lawful.Goals as goal

pub returns : goal.returns
returns c = lawful
