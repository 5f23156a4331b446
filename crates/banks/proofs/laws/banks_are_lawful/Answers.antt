use Rattle.banks.proofs.LawProofs.{lawful}
use Rattle.banks.proofs.laws.banks_are_lawful.Goals as goal

pub returns : goal.returns
returns c = lawful
