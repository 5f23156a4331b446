use Rattle.std.proofs.Common.{◌≡◌, length}
use Rattle.sheets.specs.Tables.{begun, held}
use Rattle.table_text.specs.TableTexts.{read_on}
use Rattle.table_text.proofs.table.fill.Given as goal

-- the definition still has its sheet as it was, and what is left of the text leads to the same end
abbrev pub invariant-loop-line : goal.invariant-loop-line
invariant-loop-line l =
    record {
      lends : l.definition.sheet.ghost_name ≡ l.initial.definition.sheet.ghost_name;
      stays : held l.definition.sheet.now ≡ held l.initial.definition.sheet.now;
      leads : read_on (begun l.definition.begun) l.rest ≡ read_on (begun l.initial.definition.begun) l.initial.rest;
    }

abbrev pub decreases-loop-line : goal.decreases-loop-line
decreases-loop-line l = length l.rest
