use Rattle.std.proofs.Common.{◌≡◌, ◌++◌, map, drop, vec_items}
use Rattle.machine.specs.Machines.{mill_of}
use Rattle.mill.specs.Asked.{command_of, reply_of}
use Rattle.mill.specs.Runs.{answers, run}
use Rattle.pair.proofs.mill_run.run_mill.Given as goal

-- what was said so far, with what the calls still to come are answered, is the whole, and they end where the whole list does
abbrev pub invariant-loop-call : goal.invariant-loop-call
invariant-loop-call g l =
    let now = mill_of g.S.Source.means l.machine in
    let start = mill_of g.S.Source.means l.initial.machine in
    let all = map command_of l.calls in
    let rest = map command_of (drop l.call-index l.calls) in
    record {
      said : map reply_of (vec_items l.answers) ++ answers rest now ≡ answers all start;
      left : run rest now ≡ run all start;
    }
