-- A layer that adds an amount to one axis of what stands below it.
use Rattle.std.specs.Prelude.{◌≡◌, ℕ, ◌+◌, List, refl, Bool, cond, ℤ, pos, ◌+ℤ◌, Some, None, Option, ◌==◌}
use Rattle.faults.specs.declared.fault.Fault.{Fault}
use Rattle.source.specs.Meaning.{Rows, Meaning}

-- a layer that fits counts, and adds its amount at its target; one that does not is blank
abbrev pub count : Option Fault → ℕ
count None = 1
count (Some f) = 0

abbrev pub share : Option Fault → Bool → ℤ → ℤ
share None here x = cond here x (pos 0)
share (Some f) here x = pos 0

-- a layer with the target t and, after rows, an amount; it passes axes, bare positions and refusals through
abbrev pub laid : Option Fault → ℕ → (Rows → ℤ) → Meaning → Meaning
laid o t x m = λ rs.
    record { axes = (m rs).axes; depth = (m rs).depth + count o; bare = (m rs).bare; offset = λ a. (m rs).offset a +ℤ share o (a == t) (x rs); refusal = (m rs).refusal }

-- what stands below shows through, but for offset and depth
pub record PassesThrough (m k : Meaning) : Type 0 where
  pub axes : (rs : Rows) → (k rs).axes ≡ (m rs).axes
  pub bare : (rs : Rows) (a : ℕ) → (k rs).bare a ≡ (m rs).bare a
  pub refusal : (rs : Rows) (row : List ℕ) → (k rs).refusal row ≡ (m rs).refusal row

pub laid_passes : (o : Option Fault) (t : ℕ) (x : Rows → ℤ) (m : Meaning) → PassesThrough m (laid o t x m)
laid_passes o t x m = record { axes = λ rs. refl; bare = λ rs a. refl; refusal = λ rs row. refl }
