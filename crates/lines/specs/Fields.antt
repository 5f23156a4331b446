-- Numbers within a line.
use Rattle.std.specs.Prelude.{ℕ, cond, List, [], ◌∷◌, length, drop, ℤ, Some, None, Option, ◌==◌}
use Rattle.numerals.specs.Numbers.{read_number}

-- what follows p in a text that begins with it
abbrev pub strip : List ℕ → List ℕ → Option (List ℕ)
strip [] s = Some s
strip (p ∷ ps) [] = None
strip (p ∷ ps) (c ∷ cs) = cond (p == c) (strip ps cs) None

-- the number that a text begins with, and what follows it
abbrev pub read_first : List ℕ → Option (ℤ × List ℕ)
read_first s = elim (read_number s) [ None ↦ None | Some x ↦ Some (x.0, drop x.1 s) ]

-- a number after a lead, and what follows it
abbrev pub read_field : List ℕ → List ℕ → Option (ℤ × List ℕ)
read_field lead s = elim (strip lead s) [ None ↦ None | Some r ↦ read_first r ]

-- the numbers of a line that has one after each of the leads, and nothing else
abbrev pub read_fields : List (List ℕ) → List ℕ → Option (List ℤ)
read_fields [] s = cond (length s == 0) (Some []) None
read_fields (p ∷ ps) s = elim (read_field p s) [ None ↦ None | Some x ↦ elim (read_fields ps x.1) [ None ↦ None | Some zs ↦ Some (x.0 ∷ zs) ] ]
