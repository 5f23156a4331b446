use Rattle.std.proofs.Common.{◌≡◌, length, take, drop}
use Rattle.std.specs.Prelude.{map}
use Rattle.lines.specs.Fields.{read_fields}
use Rattle.table_text.proofs.FieldSteps.{before}
use Rattle.table_text.proofs.heading.fields.Given as goal

abbrev pub invariant-loop-i : goal.invariant-loop-i
invariant-loop-i g l =
    (length l.numbers ≡ length l.leads)
    × (read_fields (map (λ x. x.now) l.leads) l.line ≡ before (take l.i l.numbers) (read_fields (drop l.i (map (λ x. x.now) l.leads)) l.rest))
