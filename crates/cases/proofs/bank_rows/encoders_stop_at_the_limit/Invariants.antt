use Rattle.std.proofs.Common.{◌<◌}
use Rattle.cases.proofs.bank_rows.encoders_stop_at_the_limit.Given as goal

-- the reading is one of an encoder
abbrev pub invariant-loop : goal.invariant-loop
invariant-loop g l = l.reading < 16777216
