-- Calls and answers of the code as plain data.
use Rattle.std.specs.Prelude.{List, ℤ, Ok, Err, vec_items, Result}
use Rattle.faults.specs.declared.fault.Fault.{Fault}
use Rattle.mill.specs.declared.call.Call.{Call}
use Rattle.mill.specs.declared.call.Call.TheVariants as asked
use Rattle.mill.specs.declared.answer.Answer.{Answer}
use Rattle.mill.specs.declared.answer.Answer.TheVariants as said
use Rattle.mill.specs.Runs.{Command, set_gains, close, kill, target, switch, question, cycle, Reply, done, told, put_out}

abbrev pub command_of : Call → Command
command_of (asked.SetGains a g) = set_gains a g
command_of (asked.Close a) = close a
command_of (asked.Kill a) = kill a
command_of (asked.Target a t) = target a t
command_of (asked.Switch a on) = switch a on
command_of (asked.Question a) = question a
command_of (asked.Cycle row n) = cycle row.now n

abbrev pub listed : {A : Type 0} → (A → List ℤ) → Result A Fault → Result (List ℤ) Fault
listed f (Ok v) = Ok (f v)
listed f (Err e) = Err e

abbrev pub reply_of : Answer → Reply
reply_of (said.Done r) = done r
reply_of (said.Report r) = told r
reply_of (said.Outputs r) = put_out (listed vec_items r)
