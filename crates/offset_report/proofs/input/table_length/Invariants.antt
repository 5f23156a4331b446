use Rattle.std.proofs.Common.{◌≡◌, ◌+◌, ◌≤◌, length}
use Rattle.offset_report.specs.Inputs.{table_length}
use Rattle.offset_report.proofs.input.table_length.Given as goal

-- the bytes that are passed, and the table's in what is left
abbrev pub invariant-loop-line : goal.invariant-loop-line
invariant-loop-line l = (length l.rest ≤ length l.input) × (table_length l.input + length l.rest ≡ length l.input + table_length l.rest)

abbrev pub decreases-loop-line : goal.decreases-loop-line
decreases-loop-line l = length l.rest
