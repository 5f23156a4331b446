use Rattle.std.proofs.Common.{◌≡◌, w64, to_z, of_z, rules}
use Rattle.sheets.specs.Tables.{table_of}
use Rattle.values.specs.Values.{value}
use Rattle.values.proofs.Bounded.{table_near}
use Rattle.values.proofs.value.read_value.Goals as goal

pub returns-in-Screw-clause-near : goal.returns-in-Screw-clause-near
returns-in-Screw-clause-near c =
    let e : to_z w64 (of_z w64 c.value.result) ≡ value (table_of c.args.table.now) c.args.row c.args.column = search rules in
    table_near c.args.table.now c.args.row c.args.column _ e

pub returns-in-Plane-clause-near : goal.returns-in-Plane-clause-near
returns-in-Plane-clause-near c =
    let e : to_z w64 (of_z w64 c.value-in-Plane.result) ≡ value (table_of c.args.table.now) c.args.row c.args.column = search rules in
    table_near c.args.table.now c.args.row c.args.column _ e
