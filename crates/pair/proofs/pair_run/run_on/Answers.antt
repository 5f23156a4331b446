use Rattle.std.proofs.Common.{List, map, vec_items, sym, subst}
use Rattle.std.specs.List.{AllZip}
use Rattle.machine.specs.Machines.{mill_of}
use Rattle.mill.specs.declared.call.Call.{Call}
use Rattle.mill.specs.Asked.{command_of, reply_of}
use Rattle.mill.specs.Mills.{fresh_mill}
use Rattle.pair.specs.PairCalls.{ActsAlike, pair_of, side_of}
use Rattle.pair.proofs.Ran.{ran_alike}
use Rattle.pair.proofs.pair_run.run_on.Goals as goal

pub returns : goal.returns
returns g c =
    let means = g.S.Source.means in
    let asked = map (side_of c.args.side) (map pair_of c.args.calls.now) in
    let alike = subst (λ (cs : List Call). AllZip ActsAlike (map command_of cs) asked) (sym c.as_slice.ensures.value) c.in_ok-asked.ensures in
    ran_alike c.run_mill.result (λ d. map reply_of (vec_items d.answers)) (λ d. mill_of means d.machine) (map command_of c.as_slice.result.now) asked (fresh_mill (means c.args.source))
    alike c.run_mill.ensures
