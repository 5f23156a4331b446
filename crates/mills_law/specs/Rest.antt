-- What one fresh mill keeps over every list of calls: it corrects by its tables, stands still until it is closed, and never passes a limit.
use Rattle.std.specs.Prelude.{◌≡◌, ℕ, ◌+◌, ◌<◌, ◌≤◌, List, [], ◌∷◌, length, drop, ℤ, pos, ◌-ℤ◌, None, Ok, slice_index_or, unsigned_abs}
use Rattle.source.specs.Meaning.{Meaning}
use Rattle.servo.specs.declared.cause.Cause.{Cause}
use Rattle.motor.specs.declared.state.State.TheVariants.{Tripped}
use Rattle.mill.specs.Calls.{absent, close_refusal}
use Rattle.mill.specs.Runs.{Command, close, kill, put_out}
use Rattle.stacks.specs.Stack.{Layer, stacked, fitted, tables}
use Rattle.stacks.specs.StackLaws.{Corrected}
use Rattle.mills_law.specs.Moments.{mill_at, motor_then, said, bottom_then, correction_then, backlash_then}

-- at every moment, for every way to see the source as layers on a bottom, the correction of an axis less its backlash is the exact sum of its tables
-- where the bottom then stands, but for half a unit a table, and just that sum where all of them stand on points
abbrev pub Corrects : Meaning → List Command → Type 0
Corrects s cs =
    (b : Meaning) (ls : List Layer) → s ≡ stacked ls b → (k a : ℕ) →
    Corrected (tables a (fitted ls b)) (bottom_then b cs k []) (correction_then a s b cs k -ℤ backlash_then a ls b cs k)

-- an axis is at rest from the start, from an accepted kill of it, and from wherever it is tripped
pub data AtRest (a : ℕ) (s : Meaning) (cs : List Command) : ℕ → Type 0 where
  started : AtRest a s cs 0
  killed : (k : ℕ) (rest : List Command) → drop k cs ≡ kill a ∷ rest → absent a (mill_at s cs k) ≡ None → AtRest a s cs (k + 1)
  tripped : (k : ℕ) (c : Cause) → (motor_then a s cs k).state ≡ Tripped c → AtRest a s cs k

-- the call after moment k is a closing of the axis that is accepted
pub record Closes (a : ℕ) (s : Meaning) (cs : List Command) (k : ℕ) : Type 0 where
  pub rest : List Command
  pub asked : drop k cs ≡ close a ∷ rest
  pub accepted : close_refusal a (mill_at s cs k) ≡ None

abbrev pub NeverClosed : ℕ → Meaning → List Command → ℕ → ℕ → Type 0
NeverClosed a s cs i j = (k : ℕ) → i ≤ k → k < j → Closes a s cs k → ⊥

-- at rest and not closed since, an axis puts out 0, and so does its place in the row of an accepted cycle
pub record StandsStill (s : Meaning) (cs : List Command) : Type 0 where
  pub output : (a i j : ℕ) → AtRest a s cs i → i ≤ j → NeverClosed a s cs i j → (motor_then a s cs j).output ≡ pos 0
  pub place : (a i j : ℕ) (row : List ℤ) → AtRest a s cs i → i ≤ j → NeverClosed a s cs i j → said s cs j ≡ put_out (Ok row) → slice_index_or row a (pos 0) ≡ pos 0

-- no output passes the limit of its axis, nor does a place in the row of an accepted cycle, which has one place an axis
pub record KeepsLimits (s : Meaning) (cs : List Command) : Type 0 where
  pub output : (a k : ℕ) → unsigned_abs (motor_then a s cs k).output ≤ unsigned_abs (motor_then a s cs k).gains.output_limit
  pub place : (a k : ℕ) (row : List ℤ) → said s cs k ≡ put_out (Ok row) → unsigned_abs (slice_index_or row a (pos 0)) ≤ unsigned_abs (motor_then a s cs (k + 1)).gains.output_limit
  pub places : (k : ℕ) (row : List ℤ) → said s cs k ≡ put_out (Ok row) → length row ≡ (s []).axes

pub record MillLaw (s : Meaning) (cs : List Command) : Type 0 where
  pub corrects : Corrects s cs
  pub still : StandsStill s cs
  pub limits : KeepsLimits s cs
