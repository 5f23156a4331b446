use Rattle.std.proofs.Common.{◌++◌, codes, decimal}
use Rattle.filled.specs.Items.{items}
use Rattle.table_writing.specs.TableTexts.{heading_line}
use Rattle.table_writing.proofs.Rows.{then_field}
use Rattle.table_writing.proofs.heading.put_screw.Goals as goal

pub returns : goal.returns
unfolding heading_line
returns c =
    let n = decimal c.args.screw.entries in
    let s = decimal c.args.screw.source.number in
    let t = decimal c.args.screw.target.number in
    let e = decimal c.args.screw.span in
    let p0 = items c.args.page.now in
    let p1 = items c.put_field.new.page in
    let p2 = items c.put_field-2.new.page in
    let p3 = items c.put_field-3.new.page in
    let p4 = items c.put_field-4.new.page in
    then_field p0 p1 p4 (codes "DEFINE COMP ") n (codes ",#" ++ (s ++ (codes ",#" ++ (t ++ (codes "," ++ e))))) c.put_field.ensures
    (then_field p1 p2 p4 (codes ",#") s (codes ",#" ++ (t ++ (codes "," ++ e))) c.put_field-2.ensures
    (then_field p2 p3 p4 (codes ",#") t (codes "," ++ e) c.put_field-3.ensures c.put_field-4.ensures))
