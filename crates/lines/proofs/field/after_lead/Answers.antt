use Rattle.std.proofs.lemmas.Slice.Eq.{strip_prefix_is}
use Rattle.lines.proofs.Heads.{stripped}
use Rattle.lines.proofs.field.after_lead.Goals as goal
use Rattle.std.proofs.lemmas.Bool.Decides.{Decides-eqb}

pub returns : goal.returns
returns c =
    stripped c.args.lead.now c.args.text.now c.strip_prefix.result (strip_prefix_is Decides-eqb c.args.text.now c.args.lead.now c.strip_prefix.result c.strip_prefix.ensures.cases)
