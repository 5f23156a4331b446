-- The rule of backlash, over the bare positions of one axis.
use Rattle.std.specs.Prelude.{Bool, cond, ◌&&◌, List, [], ◌∷◌, ℤ, pos, negsuc, ◌+ℤ◌, ◌-ℤ◌, ◌≤ℤ◌, int_le, int_lt}
use Rattle.rounding.specs.Bounds.{Within}
use Rattle.std.specs.Int.{int_max, int_min}
use Rattle.backlash.specs.declared.backlash.Backlash.{Backlash}
use Rattle.backlash.specs.declared.backlash.Direction.{Direction}
use Rattle.backlash.specs.declared.backlash.Direction.TheVariants.{Up, Down}
use Rattle.backlash.specs.declared.backlash.TakeUp.{TakeUp}

-- it starts upward, with nothing taken up
abbrev pub fresh : ℤ → TakeUp
fresh x = record { direction = Up; extreme = x; amount = pos 0 }

-- an amount z that moves by at most r towards g
abbrev pub toward : ℤ → ℤ → ℤ → ℤ
toward r g z = cond (int_lt z g) (int_min (z +ℤ r) g) (int_max (z -ℤ r) g)

-- upward the amount goes to 0, downward to the size
abbrev pub goal_of : Direction → Backlash → ℤ
goal_of Up b = pos 0
goal_of Down b = b.size

abbrev pub going : Direction → Backlash → ℤ → ℤ → TakeUp
going d b x z = record { direction = d; extreme = x; amount = toward b.rate (goal_of d b) z }

abbrev pub reversed : Direction → Direction
reversed Up = Down
reversed Down = Up

-- which of two positions is farther along
abbrev pub farther : Direction → ℤ → ℤ → ℤ
farther Up x y = int_max x y
farther Down x y = int_min x y

-- y lies farther back from the extreme x than h
abbrev pub is_back : Direction → ℤ → ℤ → ℤ → Bool
is_back Up h x y = int_lt y (x -ℤ h)
is_back Down h x y = int_lt (x +ℤ h) y

-- farther back from the extreme x than the hysteresis it reverses there, and else it goes on
abbrev pub gone : Direction → Backlash → ℤ → ℤ → ℤ → TakeUp
gone d b x z y = cond (is_back d b.hysteresis x y) (going (reversed d) b y z) (going d b x z)

-- the axis is at y after an accepted row
abbrev pub stepped : Backlash → TakeUp → ℤ → TakeUp
stepped b s y = gone s.direction b (farther s.direction s.extreme y) s.amount y

abbrev pub steps : Backlash → TakeUp → List ℤ → TakeUp
steps b s [] = s
steps b s (y ∷ ys) = steps b (stepped b s y) ys

-- the amount from a start x over the positions after each accepted row
abbrev pub taken_up : Backlash → ℤ → List ℤ → ℤ
taken_up b x ys = (steps b (fresh x) ys).amount

-- the ranges of a backlash's numbers
abbrev pub between : ℤ → ℤ → ℤ → Bool
between low z high = int_le low z && int_le z high

abbrev pub each_range : Backlash → Bool
each_range b = between (negsuc 32766) b.size (pos 32767) && (between (pos 1) b.rate (pos 32767) && between (pos 0) b.hysteresis (pos 32767))

-- shut, so that a fit is a question of three answers
unfoldable pub ranges : Backlash → Bool
ranges b = each_range b

pub record InRange (b : Backlash) : Type 0 where
  pub size : Within 32767 b.size
  pub slow : pos 1 ≤ℤ b.rate
  pub fast : b.rate ≤ℤ pos 32767
  pub least : pos 0 ≤ℤ b.hysteresis
  pub most : b.hysteresis ≤ℤ pos 32767
