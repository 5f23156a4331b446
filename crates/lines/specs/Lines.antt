-- The lines of a text.
use Rattle.std.specs.Prelude.{ℕ, Bool, true, false, cond, ◌&&◌, List, [], ◌∷◌, ◌++◌, ◌==◌}

-- a text cut at its line ends: its lines, each without its end, and what follows the last end
pub record Cut : Type 0 where
  pub lines : List (List ℕ)
  pub left : List ℕ

abbrev pub onto : ℕ → List (List ℕ) → List ℕ → Cut
onto c [] left = record { lines = []; left = c ∷ left }
onto c (l ∷ ls) left = record { lines = (c ∷ l) ∷ ls; left = left }

abbrev pub cut : List ℕ → Cut
cut [] = record { lines = []; left = [] }
cut (c ∷ cs) = cond (c == 10) (record { lines = [] ∷ (cut cs).lines; left = (cut cs).left }) (onto c (cut cs).lines (cut cs).left)

-- lines put together again, each with its end
abbrev pub joined_lines : List (List ℕ) → List ℕ → List ℕ
joined_lines [] left = left
joined_lines (l ∷ ls) left = l ++ 10 ∷ joined_lines ls left

-- the line that ends a table
abbrev pub CLOSE : List ℕ
CLOSE = 67 ∷ 76 ∷ 79 ∷ 83 ∷ 69 ∷ []

abbrev pub same : List ℕ → List ℕ → Bool
same [] [] = true
same [] (y ∷ ys) = false
same (x ∷ xs) [] = false
same (x ∷ xs) (y ∷ ys) = x == y && same xs ys
