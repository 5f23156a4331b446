use Rattle.std.proofs.Common.{◌≡◌, length, take, drop}
use Rattle.banks.specs.Axes.{AllNear}
use Rattle.banks.specs.Bank.{first_bad, row_bad, placed}
use Rattle.banks.proofs.walk.move_axes.Given as goal

-- the axes so far are placed, and the readings so far are good
abbrev pub invariant-loop-axis : goal.invariant-loop-axis
invariant-loop-axis l =
    let bad = row_bad l.gauge l.jump l.held in
    record {
      count : length l.axes.items ≡ l.axis;
      placed : l.axes.items ≡ placed l.gauge (take l.axis l.held) (take l.axis l.row);
      good : first_bad bad l.axis (drop l.axis l.row) ≡ first_bad bad 0 l.row;
      near : AllNear l.axes.items;
    }
