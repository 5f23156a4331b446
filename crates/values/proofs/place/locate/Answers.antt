use Rattle.std.proofs.Common.{rules}
use Rattle.values.proofs.Sizes.{place_below}
use Rattle.values.proofs.place.locate.Goals as goal

pub returns : goal.returns
returns c = record {
  index = search rules;
  gone = search rules;
  left = search rules;
  less = search rules;
  inside = simp (c.from.ensures, c.from-2.ensures, c.from-4.ensures) (place_below c.phase.result c.args.parts c.args.span c.phase.ensures.below c.requires.parts);
}
