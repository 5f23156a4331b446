-- The axes of a bank, in a list.
use Rattle.std.specs.Prelude.{ℕ, List, [], ◌∷◌, pos, slice_index_or}
use Rattle.rounding.specs.Bounds.{Within}
use Rattle.gauges.specs.declared.gauge.Axis.{Axis}

-- an axis that was never read
abbrev pub blank : Axis
blank = record { last = 0; position = pos 0 }

abbrev pub axis_at : List Axis → ℕ → Axis
axis_at held i = slice_index_or held i blank

-- no axis stands beyond the position limit
abbrev pub AllNear : List Axis → Type 0
AllNear held = (i : ℕ) → Within 1099511627776 (axis_at held i).position

-- each axis that has a reading becomes what f makes of the two
abbrev pub overlaid : (Axis → ℕ → Axis) → List Axis → List ℕ → List Axis
overlaid f held [] = held
overlaid f [] (x ∷ xs) = []
overlaid f (a ∷ held) (x ∷ xs) = f a x ∷ overlaid f held xs
