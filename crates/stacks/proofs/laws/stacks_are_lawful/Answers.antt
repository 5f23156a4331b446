use Rattle.stacks.proofs.Joined.{stack_laws}
use Rattle.stacks.proofs.laws.stacks_are_lawful.Goals as goal

pub returns : goal.returns
returns c = stack_laws
