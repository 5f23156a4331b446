-- What a stack passes through.
use Rattle.std.proofs.Common.{◌≡◌, ◌+◌, ◌≤◌, List, [], ◌∷◌, length, Some, None, Option, refl, arith}
use Rattle.faults.specs.declared.fault.Fault.{Fault}
use Rattle.source.specs.Meaning.{Rows, Meaning, Lawful}
use Rattle.layers.specs.Laid.{count}
use Rattle.layers.specs.SheetLaws.{sheet_lawful}
use Rattle.backlash.specs.TakeUps.{fresh}
use Rattle.backlash.specs.Taking.{none_near}
use Rattle.backlash.specs.BacklashLaws.{standing_lawful}
use Rattle.stacks.specs.Stack.{Layer, sheet, backlash, fit, put, stacked, kept, fitted}
use Rattle.stacks.specs.StackLaws.{StacksPass}

put_lawful : (l : Layer) (m : Meaning) → Lawful m → Lawful (put l m)
put_lawful (sheet s) m h = sheet_lawful s m h
put_lawful (backlash b) m h = standing_lawful b (fresh ((m []).bare b.axis)) m none_near h

pub stack_lawful : (ls : List Layer) (b : Meaning) → Lawful b → Lawful (stacked ls b)
stack_lawful [] b h = h
stack_lawful (l ∷ ls) b h = put_lawful l (stacked ls b) (stack_lawful ls b h)

pub stack_axes : (ls : List Layer) (b : Meaning) (rs : Rows) → (stacked ls b rs).axes ≡ (b rs).axes
stack_axes [] b rs = refl
stack_axes (l ∷ ls) b rs = stack_axes ls b rs

pub stack_bare : (ls : List Layer) (b : Meaning) (rs : Rows) → (stacked ls b rs).bare ≡ (b rs).bare
stack_bare [] b rs = refl
stack_bare (l ∷ ls) b rs = stack_bare ls b rs

pub stack_refusal : (ls : List Layer) (b : Meaning) (rs : Rows) → (stacked ls b rs).refusal ≡ (b rs).refusal
stack_refusal [] b rs = refl
stack_refusal (l ∷ ls) b rs = stack_refusal ls b rs

length_kept : (o : Option Fault) (l : Layer) (ls : List Layer) → length (kept o l ls) ≡ length ls + count o
length_kept None l ls = omega arith
length_kept (Some f) l ls = omega arith

pub stack_depth : (ls : List Layer) (b : Meaning) (rs : Rows) → (stacked ls b rs).depth ≡ (b rs).depth + length (fitted ls b)
stack_depth [] b rs = omega arith
stack_depth (l ∷ ls) b rs =
    omega (arith, stack_depth ls b rs, length_kept (fit l (stacked ls b [])) l (fitted ls b))

stack_shallow : (ls : List Layer) (b : Meaning) → Lawful b → (b []).depth + length (fitted ls b) ≤ 16
stack_shallow ls b h = omega (arith, stack_depth ls b [], (stack_lawful ls b h).shallow)

pub stacks_pass : StacksPass
stacks_pass ls b = record {
  lawful = stack_lawful ls b;
  axes = stack_axes ls b;
  bare = stack_bare ls b;
  refusal = stack_refusal ls b;
  depth = stack_depth ls b;
  shallow = stack_shallow ls b;
  near = λ h. (stack_lawful ls b h).offset;
}
