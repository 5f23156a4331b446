use Rattle.std.proofs.Common.{◌≡◌, ◌++◌}
use Rattle.filled.specs.Items.{items}
use Rattle.table_writing.specs.Pages.{clip}
use Rattle.table_writing.proofs.Rows.{rows}
use Rattle.table_writing.proofs.write.put_entries.Given as goal

-- the page so far has a line for each entry that was passed
abbrev pub invariant-loop-value : goal.invariant-loop-value
invariant-loop-value l = items l.page ≡ clip (items l.initial.page ++ rows l.entries l.value-index)
