use Rattle.layers.specs.Laying.{offset_room}
use Rattle.layers.proofs.below.offset_below.Goals as goal

pub returns : goal.returns
returns g c = record {
  value = c.offset.ensures;
  near = offset_room (g.S.Source.means c.args.below.now) c.args.axis c.offset.result (g.met.S.Source.lawful c.args.below.now) c.offset.ensures;
}
