-- The moments of a run: 0 is the start of a fresh mill on a source, and k the moment after its first k calls.
use Rattle.std.specs.Prelude.{ℕ, cond, List, [], ◌∷◌, take, ℤ, ◌-ℤ◌, Ok, ◌==◌, slice_index_or}
use Rattle.source.specs.Meaning.{Rows, Meaning}
use Rattle.motor.specs.Motors.{MotorView}
use Rattle.mill.specs.Mills.{Mill, fresh_mill, seen, motor_at}
use Rattle.mill.specs.Runs.{Command, set_gains, close, kill, target, switch, question, cycle, Reply, done, run, answers}
use Rattle.stacks.specs.Stack.{Layer, fitted, backlashes, backlash_sum}
use Rattle.stacks.specs.Runs.{offered, accepted}

abbrev pub mill_at : Meaning → List Command → ℕ → Mill
mill_at s cs k = run (take k cs) (fresh_mill s)

-- the motor of an axis then
abbrev pub motor_then : ℕ → Meaning → List Command → ℕ → MotorView
motor_then a s cs k = motor_at a (mill_at s cs k)

-- what is answered to the call after moment k
abbrev pub said : Meaning → List Command → ℕ → Reply
said s cs k = slice_index_or (answers cs (fresh_mill s)) k (done (Ok tt))

-- the rows that reach a source of n axes: those of the cycles that lend an output row of n places
abbrev pub rows_of : ℕ → List Command → Rows
rows_of n [] = []
rows_of n (set_gains a g ∷ cs) = rows_of n cs
rows_of n (close a ∷ cs) = rows_of n cs
rows_of n (kill a ∷ cs) = rows_of n cs
rows_of n (target a t ∷ cs) = rows_of n cs
rows_of n (switch a on ∷ cs) = rows_of n cs
rows_of n (question a ∷ cs) = rows_of n cs
rows_of n (cycle r k ∷ cs) = cond (k == n) (r ∷ rows_of n cs) (rows_of n cs)

-- those of the first k calls that reach the bottom of a stack
abbrev pub rows_then : Meaning → List Command → ℕ → Rows
rows_then b cs k = rows_of (b []).axes (take k cs)

-- the bottom after them
abbrev pub bottom_then : Meaning → List Command → ℕ → Meaning
bottom_then b cs k = offered b (rows_then b cs k)

-- the correction of an axis: the offset of the mill's source less that of its bottom
abbrev pub correction_then : ℕ → Meaning → Meaning → List Command → ℕ → ℤ
correction_then a s b cs k = (seen (mill_at s cs k)).offset a -ℤ (bottom_then b cs k []).offset a

-- what the rule of backlash gives, over the accepted rows, to each backlash on the axis that fits
abbrev pub backlash_then : ℕ → List Layer → Meaning → List Command → ℕ → ℤ
backlash_then a ls b cs k = backlash_sum b (accepted b (rows_then b cs k)) (backlashes a (fitted ls b))
