-- Points whose values are known, to hold the definitions to.
use Rattle.std.specs.Prelude.{◌≡◌, List, [], ◌∷◌, map, ℤ, pos, negsuc}
use Rattle.headings.specs.Heads.{screw, plane}
use Rattle.sheets.specs.Tables.{Table}
use Rattle.values.specs.Values.{value}

-- four entries over ten counts
abbrev pub four : Table
four = record { head = screw 4 1 1 10; entries = pos 8 ∷ negsuc 7 ∷ pos 4 ∷ pos 0 ∷ [] }

-- one cell of one count each way
abbrev pub cell : Table
cell = record { head = plane 1 1 1 2 3 1 1; entries = pos 4 ∷ pos 8 ∷ pos 12 ∷ [] }

-- eight entries over 4,000 counts, in sixteenths
abbrev pub eight : Table
eight = record { head = screw 8 1 1 4000; entries = negsuc 159 ∷ pos 80 ∷ pos 120 ∷ pos 96 ∷ pos 20 ∷ negsuc 55 ∷ negsuc 11 ∷ pos 0 ∷ [] }

-- a table, a position of its row axis and of its column axis, and the value there
abbrev pub points : List (Table × ℤ × ℤ × ℤ)
points =
    (four, pos 40, pos 0, pos 8) ∷ (four, pos 125, pos 0, pos 4) ∷ (four, pos 85, pos 0, negsuc 5) ∷
    (four, negsuc 0, pos 0, pos 0) ∷ (four, negsuc 19, pos 0, pos 2) ∷ (four, pos 200, pos 0, pos 8) ∷
    (cell, pos 8, pos 8, pos 6) ∷ (eight, pos 20800, pos 0, pos 104) ∷ []

abbrev pub PointsStand : Type 0
PointsStand = map (λ r. value r.0 r.1 r.2) points ≡ map (λ r. r.3) points
