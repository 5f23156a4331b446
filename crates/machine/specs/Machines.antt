-- A machine as the mill that its contracts speak of.
use Rattle.std.specs.Prelude.{map}
use Rattle.source.specs.Meaning.{Meaning}
use Rattle.motor.specs.Motors.{view}
use Rattle.mill.specs.Mills.{Mill}
use Rattle.machine.specs.declared.machine.Machine.{Machine}

abbrev pub mill_of : {S : Type 0} → (S → Meaning) → Machine S → Mill
mill_of f m = record { means = f m.source; motors = map view m.inner.records }
