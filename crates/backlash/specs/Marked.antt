-- Runs whose amounts are known, to hold the rule to.
use Rattle.std.specs.Prelude.{◌≡◌, List, [], ◌∷◌, ℤ, pos, negsuc}
use Rattle.backlash.specs.declared.backlash.Backlash.{Backlash}
use Rattle.backlash.specs.declared.backlash.TakeUp.{TakeUp}
use Rattle.backlash.specs.TakeUps.{fresh, stepped}

-- the amount after each position
abbrev pub amounts : Backlash → TakeUp → List ℤ → List ℤ
amounts b s [] = []
amounts b s (y ∷ ys) = (stepped b s y).amount ∷ amounts b (stepped b s y) ys

-- up, back by the hysteresis and no reversal, one further and down, to the full size, and up again
abbrev pub path : List ℤ
path = pos 5 ∷ pos 4 ∷ pos 3 ∷ pos 2 ∷ negsuc 0 ∷ negsuc 2 ∷ negsuc 0 ∷ pos 0 ∷ pos 1 ∷ pos 2 ∷ []

abbrev pub sized : ℤ → Backlash
sized z = record { axis = 0; size = z; rate = pos 4; hysteresis = pos 2 }

pub record RunsStand : Type 0 where
  pub positive : amounts (sized (pos 10)) (fresh (pos 0)) path ≡ pos 0 ∷ pos 0 ∷ pos 0 ∷ pos 4 ∷ pos 8 ∷ pos 10 ∷ pos 10 ∷ pos 6 ∷ pos 2 ∷ pos 0 ∷ []
  pub negative : amounts (sized (negsuc 9)) (fresh (pos 0)) path ≡ pos 0 ∷ pos 0 ∷ pos 0 ∷ negsuc 3 ∷ negsuc 7 ∷ negsuc 9 ∷ negsuc 9 ∷ negsuc 5 ∷ negsuc 1 ∷ pos 0 ∷ []
