use Rattle.mills_law.proofs.laws.mills_obey.Goals as goal
use Rattle.mills_law.proofs.Obeying.{mills_obey}

pub returns : goal.returns
returns c = mills_obey
