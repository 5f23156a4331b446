-- Calls for two mills as plain data.
use Rattle.std.specs.Prelude.{◌≡◌, vec_items}
use Rattle.mill.specs.Mills.{Mill}
use Rattle.mill.specs.Runs.{Command, answer, next}
use Rattle.mills_law.specs.Pairs.{PairCommand, set_gains, close, kill, target, switch, question, cycle, east_of, shift_of, west_of}
use Rattle.pair.specs.declared.pair_call.PairCall.{PairCall}
use Rattle.pair.specs.declared.pair_call.PairCall.TheVariants as asked
use Rattle.pair.specs.declared.pair_call.Side.{Side}
use Rattle.pair.specs.declared.pair_call.Side.TheVariants.{East, West}

abbrev pub pair_of : PairCall → PairCommand
pair_of (asked.SetGains a g) = set_gains a g
pair_of (asked.Close a) = close a
pair_of (asked.Kill a) = kill a
pair_of (asked.Target a t) = target a t
pair_of (asked.Switch a on) = switch a on
pair_of (asked.Question a) = question a
pair_of (asked.Cycle r q n) = cycle (vec_items r) (vec_items q) n

-- what a side is asked
abbrev pub side_of : Side → PairCommand → Command
side_of East c = east_of c
side_of (West ks) c = west_of (shift_of ks.now) c

-- two calls that every mill answers alike, and that leave it alike
pub record ActsAlike (c d : Command) : Type 0 where
  pub said : (m : Mill) → answer c m ≡ answer d m
  pub left : (m : Mill) → next c m ≡ next d m
