use Rattle.std.proofs.Common.{◌≤◌, vec_len}
use Rattle.program_input.proofs.read_input.Given as goal

abbrev pub invariant-loop : goal.invariant-loop
invariant-loop l = vec_len l.input ≤ l.limit
