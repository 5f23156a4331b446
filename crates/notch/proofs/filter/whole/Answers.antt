use Rattle.std.proofs.Common.{◌≡◌, w32, to_z, of_z, rules}
use lib.Ieee.{to_signed}
use Rattle.notch.proofs.Bounds.{bounded}
use Rattle.notch.proofs.filter.whole.Goals as goal

pub returns-clause-bound : goal.returns-clause-bound
returns-clause-bound c = λ limit raw e small.
    let value : to_z w32 (of_z w32 c.saturating_f64_to_i32.result) ≡ to_signed 31 c.args.y = search rules in
    rw (value, e) (bounded limit raw small)
