use Rattle.std.proofs.Common.{map}
use Rattle.mills_law.specs.Pairs.{shift_of}
use Rattle.pair.specs.PairCalls.{pair_of}
use Rattle.pair.proofs.pair_run.obeyed.Goals as goal

pub returns : goal.returns
returns g c =
    c.mills_obey.ensures (shift_of c.args.shift.now) (g.E.Source.means c.args.east.now) (g.W.Source.means c.args.west.now) (map pair_of c.args.calls.now)
    (g.met.E.Source.lawful c.args.east.now) (g.met.W.Source.lawful c.args.west.now)
