-- All laws of stacks.
use Rattle.stacks.specs.Runs.{RunsCorrect, RunsMatch}
use Rattle.stacks.specs.StackLaws.{StacksPass, StacksSum, StacksCorrect, StacksOrder, StacksShift, StacksReorder}

pub record StackLaws : Type 0 where
  pub pass : StacksPass
  pub sum : StacksSum
  pub correct : StacksCorrect
  pub order : StacksOrder
  pub shift : StacksShift
  pub reorder : StacksReorder
  pub runs_correct : RunsCorrect
  pub runs_match : RunsMatch
