use Rattle.std.proofs.Common.{◌≡◌, ◌++◌, take}
use Rattle.filled.specs.Items.{items}
use Rattle.filled.proofs.filled.Filled.extend.Given as goal

abbrev pub invariant-loop-item : goal.invariant-loop-item
invariant-loop-item g l = items l.self ≡ take g.row.N (items l.initial.self ++ take l.item-index l.more)
