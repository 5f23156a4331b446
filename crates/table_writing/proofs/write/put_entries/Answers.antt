use Rattle.std.proofs.Common.{◌≡◌, get_or, pos, arith, w16, SFits, to_z, of_z, rules}
use Rattle.std.proofs.lemmas.Int.{ints}
use Rattle.filled.specs.Items.{items}
use Rattle.table_writing.proofs.Rows.{rows_none, rows_next}
use Rattle.table_writing.proofs.write.put_entries.Goals as goal

pub loop-value-init : goal.loop-value-init
loop-value-init c = rows_none c.args.page.now c.args.entries.now

pub loop-value-preserved : goal.loop-value-preserved
loop-value-preserved c =
    let es = c.args.entries.now in
    let i = c.loop-value.value-index in
    let x = get_or es i (pos 0) in
    let fits : SFits w16 x = search rules in
    let same : to_z w16 (of_z w16 x) ≡ x = omega (arith, ints) in
    rows_next (items c.args.page.now) (items c.loop-value.page) (items c.put_line.new.page) es i (to_z w16 (of_z w16 x)) c.loop-value.invariant (omega arith) same c.put_line.ensures
