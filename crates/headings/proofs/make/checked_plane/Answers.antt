use Rattle.std.proofs.Common.{◌≡◌, true, false, nat_abs, rules}
use Rattle.std.proofs.lemmas.Result.{err_from_is_err_and}
use Rattle.headings.specs.Heads.{within}
use Rattle.headings.proofs.Planes.{plane_refused, plane_made, bad_columns, bad_row_motor, bad_column_motor, bad_target, bad_row_span, bad_column_span}
use Rattle.headings.proofs.make.checked_plane.Goals as goal

pub returns-in_err-columns : goal.returns-in_err-columns
returns-in_err-columns c =
    let n = c.args.numbers in
    let bad : within 16 n.columns ≡ false = search rules in
    plane_refused n.rows n.columns n.row_motor n.column_motor n.target n.row_span n.column_span c.from_residual-in_err-columns.result c.in_err-columns.field-0.0 (err_from_is_err_and c.from_residual-in_err-columns.result c.from_residual-in_err-columns.ensures.1) c.in_err-columns.ensures.1 (bad_columns n.rows n.columns n.row_motor n.column_motor n.target n.row_span n.column_span bad)

pub returns-in_err-row_motor : goal.returns-in_err-row_motor
returns-in_err-row_motor c =
    let n = c.args.numbers in
    let bad : within 8 n.row_motor ≡ false = search rules in
    plane_refused n.rows n.columns n.row_motor n.column_motor n.target n.row_span n.column_span c.from_residual-in_err-row_motor.result c.in_err-row_motor.field-0.0 (err_from_is_err_and c.from_residual-in_err-row_motor.result c.from_residual-in_err-row_motor.ensures.1) c.in_err-row_motor.ensures.1 (bad_row_motor n.rows n.columns n.row_motor n.column_motor n.target n.row_span n.column_span bad)

pub returns-in_err-column_motor : goal.returns-in_err-column_motor
returns-in_err-column_motor c =
    let n = c.args.numbers in
    let bad : within 8 n.column_motor ≡ false = search rules in
    plane_refused n.rows n.columns n.row_motor n.column_motor n.target n.row_span n.column_span c.from_residual-in_err-column_motor.result c.in_err-column_motor.field-0.0 (err_from_is_err_and c.from_residual-in_err-column_motor.result c.from_residual-in_err-column_motor.ensures.1) c.in_err-column_motor.ensures.1 (bad_column_motor n.rows n.columns n.row_motor n.column_motor n.target n.row_span n.column_span bad)

pub returns-in_err-target : goal.returns-in_err-target
returns-in_err-target c =
    let n = c.args.numbers in
    let bad : within 8 n.target ≡ false = search rules in
    plane_refused n.rows n.columns n.row_motor n.column_motor n.target n.row_span n.column_span c.from_residual-in_err-target.result c.in_err-target.field-0.0 (err_from_is_err_and c.from_residual-in_err-target.result c.from_residual-in_err-target.ensures.1) c.in_err-target.ensures.1 (bad_target n.rows n.columns n.row_motor n.column_motor n.target n.row_span n.column_span bad)

pub returns-in_err-row_span : goal.returns-in_err-row_span
returns-in_err-row_span c =
    let n = c.args.numbers in
    let bad : within 262144 n.row_span ≡ false = search rules in
    plane_refused n.rows n.columns n.row_motor n.column_motor n.target n.row_span n.column_span c.from_residual-in_err-row_span.result c.in_err-row_span.field-0.0 (err_from_is_err_and c.from_residual-in_err-row_span.result c.from_residual-in_err-row_span.ensures.1) c.in_err-row_span.ensures.1 (bad_row_span n.rows n.columns n.row_motor n.column_motor n.target n.row_span n.column_span bad)

pub returns-in_err-column_span : goal.returns-in_err-column_span
returns-in_err-column_span c =
    let n = c.args.numbers in
    let bad : within 262144 n.column_span ≡ false = search rules in
    plane_refused n.rows n.columns n.row_motor n.column_motor n.target n.row_span n.column_span c.from_residual-in_err-column_span.result c.in_err-column_span.field-0.0 (err_from_is_err_and c.from_residual-in_err-column_span.result c.from_residual-in_err-column_span.ensures.1) c.in_err-column_span.ensures.1 (bad_column_span n.rows n.columns n.row_motor n.column_motor n.target n.row_span n.column_span bad)

pub returns : goal.returns
returns c =
    let n = c.args.numbers in
    let q0 : within 16 n.rows ≡ true = search rules in
    let q1 : within 16 n.columns ≡ true = search rules in
    let q2 : within 8 n.row_motor ≡ true = search rules in
    let q3 : within 8 n.column_motor ≡ true = search rules in
    let q4 : within 8 n.target ≡ true = search rules in
    let q5 : within 262144 n.row_span ≡ true = search rules in
    let q6 : within 262144 n.column_span ≡ true = search rules in
    let e0 : c.in_ok-rows.field-0 ≡ nat_abs n.rows = search rules in
    let e1 : c.in_ok-columns.field-0 ≡ nat_abs n.columns = search rules in
    let e2 : c.in_ok-row_motor.row_motor.number ≡ nat_abs n.row_motor = search rules in
    let e3 : c.in_ok-column_motor.column_motor.number ≡ nat_abs n.column_motor = search rules in
    let e4 : c.in_ok-target.target.number ≡ nat_abs n.target = search rules in
    let e5 : c.in_ok-row_span.row_span ≡ nat_abs n.row_span = search rules in
    let e6 : c.in_ok-column_span.column_span ≡ nat_abs n.column_span = search rules in
    plane_made n.rows n.columns n.row_motor n.column_motor n.target n.row_span n.column_span _ _ _ _ _ _ _ q0 q1 q2 q3 q4 q5 q6 e0 e1 e2 e3 e4 e5 e6
