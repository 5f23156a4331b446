use lib.Ieee.{binary64, of_int}
use Rattle.notch.specs.Filter.{weighed}
use Rattle.notch.proofs.Bounds.{bounded}
use Rattle.notch.proofs.Exact.{exact}
use Rattle.notch.proofs.laws.notch_is_lawful.Goals as goal

pub returns : goal.returns
returns x = record { limited = λ m c o u h. bounded o (weighed m c (of_int binary64 u)) h; exact = exact }
