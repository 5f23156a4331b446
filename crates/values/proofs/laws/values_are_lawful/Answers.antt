use Rattle.values.proofs.Bounded.{value_bounded}
use Rattle.values.proofs.Halves.{value_half}
use Rattle.values.proofs.Points.{value_on_points}
use Rattle.values.proofs.Repeats.{value_repeats}
use Rattle.values.proofs.laws.values_are_lawful.Goals as goal

pub returns : goal.returns
returns c = record { half = value_half; points = value_on_points; repeats = value_repeats; bounded = value_bounded }
