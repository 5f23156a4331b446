-- Any two fresh mills obey the law.
use Rattle.std.proofs.Common.{List}
use Rattle.source.specs.Meaning.{Meaning, Lawful}
use Rattle.mill.specs.Runs.{Command}
use Rattle.mills_law.specs.Pairs.{easts, wests}
use Rattle.mills_law.specs.Rest.{MillLaw}
use Rattle.mills_law.specs.MillsLaw.{MillsObey}
use Rattle.mills_law.proofs.Corrections.{corrects}
use Rattle.mills_law.proofs.Outputs.{stands_still, keeps_limits}
use Rattle.mills_law.proofs.SameMills.{same_mills}

pub mill_obeys : (s : Meaning) (cs : List Command) → Lawful s → MillLaw s cs
mill_obeys s cs h = record { corrects = corrects s cs h; still = stands_still s cs; limits = keeps_limits s cs h }

pub mills_obey : MillsObey
mills_obey K e w cs he hw =
    record { east = mill_obeys e (easts cs) he; west = mill_obeys w (wests K cs) hw; same = same_mills K e w cs he hw }
