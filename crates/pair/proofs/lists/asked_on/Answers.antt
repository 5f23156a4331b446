use Rattle.std.proofs.Common.{rules}
use Rattle.std.proofs.lemmas.Iterator.{YieldsList-from_slice, YieldsList-from_map_by}
use Rattle.std.proofs.lemmas.Iterator.Consumers.{YieldsList-at}
use Rattle.mill.specs.Asked.{command_of}
use Rattle.pair.specs.PairCalls.{pair_of, side_of}
use Rattle.pair.proofs.Alike.{acts, acts_same, all_collected}
use Rattle.pair.proofs.lists.asked_on.Goals as goal

pub returns : goal.returns
returns c =
    let f = side_of c.args.side in
    all_collected f c.args.calls.now c.collect.result c.collect.ensures.ran
    (YieldsList-from_map_by _ (λ x. acts (command_of x)) (λ p. acts (f (pair_of p))) (YieldsList-at c.map.ensures.source (YieldsList-from_slice c.args.calls.now cc))
    c.map.ensures.closure (λ x r q k. (search rules, acts_same _ _ (search rules))))
