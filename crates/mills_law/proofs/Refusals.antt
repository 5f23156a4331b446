-- What a refusal that is none says of its checks.
use Rattle.std.proofs.Common.{◌≡◌, ℕ, ◌<◌, Bool, true, false, cond, ltb, Some, None, Option, refl}
use Rattle.std.proofs.lemmas.Bool.{ltb-true}
use Rattle.faults.specs.declared.fault.Fault.{Fault}
use Rattle.faults.specs.declared.fault.Refusal.TheVariants.{NoSuchAxis}
use Rattle.mill.specs.Mills.{Mill, seen, first, machine_fault}
use Rattle.mill.specs.Calls.{absent}

pub first_none : (o p : Option Fault) → first o p ≡ None → (o ≡ None) × (p ≡ None)
first_none None p e = (refl, e)
first_none (Some f) p e = cc

pub passes : (b : Bool) (f : Fault) → cond b None (Some f) ≡ None → b ≡ true
passes true f e = refl
passes false f e = cc

pub fails : (b : Bool) (f : Fault) → cond b (Some f) None ≡ None → b ≡ false
fails true f e = cc
fails false f e = refl

-- an axis that is there
pub present : (a : ℕ) (m : Mill) → absent a m ≡ None → a < (seen m).axes
present a m e = ltb-true a (seen m).axes (passes (ltb a (seen m).axes) (machine_fault NoSuchAxis a) e)
