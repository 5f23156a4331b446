-- A backlash layer: the amount that the rule gives over the bare positions of its axis.
use Rattle.std.specs.Prelude.{ℕ, cond, List, [], ◌∷◌, ℤ, Some, None, Option}
use Rattle.faults.specs.Faults.{fault_of}
use Rattle.faults.specs.declared.fault.Fault.{Fault}
use Rattle.faults.specs.declared.fault.Part.TheVariants.{Source}
use Rattle.faults.specs.declared.fault.Refusal.TheVariants.{OutOfRange}
use Rattle.source.specs.Meaning.{Seen, Rows, Meaning, past}
use Rattle.layers.specs.Below.{axis_fit, depth_fit, then_fit}
use Rattle.layers.specs.Laid.{laid}
use Rattle.backlash.specs.declared.backlash.Backlash.{Backlash}
use Rattle.backlash.specs.declared.backlash.TakeUp.{TakeUp}
use Rattle.backlash.specs.TakeUps.{fresh, stepped, steps, ranges}

-- 2 for a number out of its range, then 3 for an absent axis, then 12 for a stack that is full
abbrev pub range_fit : Backlash → Option Fault
range_fit b = cond (ranges b) None (Some (fault_of Source OutOfRange))

abbrev pub backlash_fit : Backlash → Seen → Option Fault
backlash_fit b s = then_fit (range_fit b) (then_fit (axis_fit Source b.axis s) (depth_fit Source s))

-- a position is noted after a row that was accepted
abbrev pub noted : Option Fault → ℤ → List ℤ → List ℤ
noted None y ys = y ∷ ys
noted (Some f) y ys = ys

-- the bare positions of an axis after each accepted row
abbrev pub trail : ℕ → Meaning → Rows → List ℤ
trail a m [] = []
trail a m (r ∷ rs) = noted ((m []).refusal r) ((m (r ∷ [])).bare a) (trail a (past m r) rs)

-- where the take-up stands after an accepted row: a layer that does not fit stays
abbrev pub moved : Option Fault → Backlash → TakeUp → ℤ → TakeUp
moved None b s y = stepped b s y
moved (Some f) b s y = s

-- a layer whose take-up stands at s now
abbrev pub standing : Backlash → TakeUp → Meaning → Meaning
standing b s m = laid (backlash_fit b (m [])) b.axis (λ rs. (steps b s (trail b.axis m rs)).amount) m

-- a backlash newly put on a source
abbrev pub backlash_put : Backlash → Meaning → Meaning
backlash_put b m = standing b (fresh ((m []).bare b.axis)) m
