use Rattle.std.proofs.Common.{◌≡◌, get_or, Ok, Err, sym, ap, ◌∙◌, add-one, arith, take, ◌++◌, List, ◌∷◌, []}
use Rattle.std.proofs.lemmas.Result.{err_from_is_err_and, IfOk-at_ok}
use Rattle.gauges.specs.Gauges.{outcome, moved}
use Rattle.gauges.specs.declared.gauge.Axis.{Axis}
use Rattle.rounding.specs.Bounds.{Within}
use Rattle.banks.specs.Axes.{axis_at}
use Rattle.banks.specs.Bank.{row_bad, placed, named}
use Rattle.banks.proofs.Walking.{named_ok, bad_here, good_more, overlaid_more, pushed_near}
use Rattle.banks.proofs.walk.move_axes.Goals as goal

pub returns-in_err-name-clause-value : goal.returns-in_err-name-clause-value
returns-in_err-name-clause-value c =
    let p = err_from_is_err_and c.from_residual.result c.from_residual.ensures.1 in
    let g = c.args.gauge in
    let held = c.args.held.now in
    let row = c.args.row.now in
    let i = c.loop-axis.axis in
    let said = ap (named i) (sym c.read.ensures.value) ∙ sym c.name.ensures ∙ c.in_err-name.was ∙ ap Err (sym p.2) in
    rw p.1 (bad_here (row_bad g c.args.jump held) row i 0 (moved g (axis_at held i) (get_or row i 0)) p.0
    (record { items = placed g held row }) c.loop-axis-test.true said c.loop-axis.invariant.good)

pub loop-axis-preserved : goal.loop-axis-preserved
loop-axis-preserved c =
    let g = c.args.gauge in
    let held = c.args.held.now in
    let row = c.args.row.now in
    let i = c.loop-axis.axis in
    let next = c.in_ok-name.field-0 in
    let bad = row_bad g c.args.jump held in
    let said = ap (named i) (sym c.read.ensures.value) ∙ sym c.name.ensures ∙ c.in_ok-name.was in
    let good = named_ok i (bad i (get_or row i 0)) (moved g (axis_at held i) (get_or row i 0)) next said in
    let is : c.read.result ≡ Ok c.in_ok-name.field-0 = c.read.ensures.value ∙ ap (λ o. outcome o (moved g (axis_at held i) (get_or row i 0))) good.0 ∙ ap Ok good.1 in
    let more = overlaid_more (moved g) held row i 0 c.loop-axis-test.true (omega arith) in
    record {
      count = omega arith;
      placed = c.push.ensures.items ∙ ap (λ (xs : List Axis). xs ++ next ∷ []) c.loop-axis.invariant.placed
          ∙ ap (λ a. placed g (take i held) (take i row) ++ a ∷ []) (sym good.1) ∙ rw add-one more;
      good = good_more bad row i 0 c.loop-axis-test.true good.0 c.loop-axis.invariant.good;
      near = rw c.push.ensures.items (pushed_near c.loop-axis.axes.items next (IfOk-at_ok (λ a. Within 1099511627776 a.position) is c.read.ensures.near) c.loop-axis.invariant.near);
    }
