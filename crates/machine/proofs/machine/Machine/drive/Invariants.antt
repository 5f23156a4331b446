use Rattle.std.proofs.Common.{◌≡◌, [], map, take}
use Rattle.motor.specs.Motors.{view}
use Rattle.mill.specs.Mills.{stepped_all, output_of}
use Rattle.machine.proofs.Driving.{Driven}
use Rattle.machine.proofs.machine.Machine.drive.Given as goal

abbrev pub invariant-loop-axis : goal.invariant-loop-axis
invariant-loop-axis g l =
    let s = g.S.Source.means l.initial.self.source [] in
    let ms = map view l.self.inner.records in
    (l.self.source ≡ l.initial.self.source)
    × Driven s l.axis ms (stepped_all s 0 (map view l.initial.self.inner.records))
    × (take l.axis l.out ≡ map output_of (take l.axis ms))
