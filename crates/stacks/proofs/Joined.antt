-- All laws of stacks.
use Rattle.stacks.specs.Joined.{StackLaws}
use Rattle.stacks.proofs.Fractions.{stacks_correct}
use Rattle.stacks.proofs.Matches.{stacks_order, stacks_shift, stacks_reorder}
use Rattle.stacks.proofs.Running.{runs_correct, runs_match}
use Rattle.stacks.proofs.Stacking.{stacks_pass}
use Rattle.stacks.proofs.Sums.{stacks_sum}

pub stack_laws : StackLaws
stack_laws = record {
  pass = stacks_pass;
  sum = stacks_sum;
  correct = stacks_correct;
  order = stacks_order;
  shift = stacks_shift;
  reorder = stacks_reorder;
  runs_correct = runs_correct;
  runs_match = runs_match;
}
