use Rattle.std.proofs.Common.{◌≡◌, length, take, drop}
use Rattle.banks.specs.Axes.{AllNear}
use Rattle.banks.specs.Bank.{first_bad, start_bad, started}
use Rattle.banks.proofs.walk.start_axes.Given as goal

-- the axes so far are started, and the readings so far are good
abbrev pub invariant-loop-axis : goal.invariant-loop-axis
invariant-loop-axis l = record {
  count : length l.axes.items ≡ l.axis;
  started : l.axes.items ≡ started l.gauge (take l.axis l.readings);
  good : first_bad (start_bad l.gauge) l.axis (drop l.axis l.readings) ≡ first_bad (start_bad l.gauge) 0 l.readings;
  near : AllNear l.axes.items;
}
