use Rattle.std.proofs.Common.{◌++◌, codes, decimal}
use Rattle.filled.specs.Items.{items}
use Rattle.table_writing.specs.TableTexts.{heading_line}
use Rattle.table_writing.proofs.Rows.{then_field}
use Rattle.table_writing.proofs.heading.put_plane.Goals as goal

pub returns : goal.returns
unfolding heading_line
returns c =
    let h = c.args.plane in
    let r = decimal h.rows in
    let k = decimal h.columns in
    let s = decimal h.row_motor.number in
    let u = decimal h.column_motor.number in
    let t = decimal h.target.number in
    let a = decimal h.row_span in
    let b = decimal h.column_span in
    let p0 = items c.args.page.now in
    let p1 = items c.put_field.new.page in
    let p2 = items c.put_field-2.new.page in
    let p3 = items c.put_field-3.new.page in
    let p4 = items c.put_field-4.new.page in
    let p5 = items c.put_field-5.new.page in
    let p6 = items c.put_field-6.new.page in
    let p7 = items c.put_field-7.new.page in
    then_field p0 p1 p7 (codes "DEFINE COMP ") r (codes "." ++ (k ++ (codes ",#" ++ (s ++ (codes ",#" ++ (u ++ (codes ",#" ++ (t ++ (codes "," ++ (a ++ (codes "," ++ b))))))))))) c.put_field.ensures
    (then_field p1 p2 p7 (codes ".") k (codes ",#" ++ (s ++ (codes ",#" ++ (u ++ (codes ",#" ++ (t ++ (codes "," ++ (a ++ (codes "," ++ b))))))))) c.put_field-2.ensures
    (then_field p2 p3 p7 (codes ",#") s (codes ",#" ++ (u ++ (codes ",#" ++ (t ++ (codes "," ++ (a ++ (codes "," ++ b))))))) c.put_field-3.ensures
    (then_field p3 p4 p7 (codes ",#") u (codes ",#" ++ (t ++ (codes "," ++ (a ++ (codes "," ++ b))))) c.put_field-4.ensures
    (then_field p4 p5 p7 (codes ",#") t (codes "," ++ (a ++ (codes "," ++ b))) c.put_field-5.ensures
    (then_field p5 p6 p7 (codes ",") a (codes "," ++ b) c.put_field-6.ensures c.put_field-7.ensures)))))
