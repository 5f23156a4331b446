-- What the rule of backlash keeps.
use Rattle.std.specs.Prelude.{◌≡◌, true, List, [], ◌∷◌, ℤ, pos, negsuc, ◌+ℤ◌, ◌-ℤ◌, ◌≤ℤ◌, int_le, int_lt}
use Rattle.std.proofs.Common.{arith}
use Rattle.std.specs.Int.{int_max, int_min}
use Rattle.std.proofs.lemmas.Int.{ints, clamps}
use Rattle.std.proofs.lemmas.Bool.{and_parts, cond_both}
use Rattle.rounding.specs.Bounds.{Within}
use Rattle.backlash.specs.declared.backlash.Backlash.{Backlash}
use Rattle.backlash.specs.declared.backlash.Direction.{Direction}
use Rattle.backlash.specs.declared.backlash.Direction.TheVariants.{Up, Down}
use Rattle.backlash.specs.declared.backlash.TakeUp.{TakeUp}
use Rattle.backlash.specs.TakeUps.{toward, goal_of, going, reversed, farther, is_back, stepped, steps, between, ranges, InRange}

le_of : (a b : ℤ) → int_le a b ≡ true → a ≤ℤ b
le_of a b e = omega (arith, ints)

between_of : (a z b : ℤ) → between a z b ≡ true → (a ≤ℤ z) × (z ≤ℤ b)
between_of a z b e = let p = and_parts (int_le a z) (int_le z b) e in (le_of a z p.0, le_of z b p.1)

pub ranges_of : (b : Backlash) → ranges b ≡ true → InRange b
unfolding ranges
ranges_of b e =
    let p = and_parts (between (negsuc 32766) b.size (pos 32767)) _ e in
    let q = and_parts (between (pos 1) b.rate (pos 32767)) _ p.1 in
    let s = between_of (negsuc 32766) b.size (pos 32767) p.0 in
    let r = between_of (pos 1) b.rate (pos 32767) q.0 in
    let h = between_of (pos 0) b.hysteresis (pos 32767) q.1 in
    record { size = s; slow = r.0; fast = r.1; least = h.0; most = h.1 }

pub none_near : Within 32767 (pos 0)
none_near = (omega (arith, ints), omega (arith, ints))

toward_near : (r g z : ℤ) → pos 1 ≤ℤ r → Within 32767 g → Within 32767 z → Within 32767 (toward r g z)
toward_near r g z h (a, b) (c, d) =
    cond_both (int_lt z g) (int_min (z +ℤ r) g) (int_max (z -ℤ r) g) (Within 32767)
    (λ e. (omega (arith, ints, clamps), omega (arith, ints, clamps))) (λ e. (omega (arith, ints, clamps), omega (arith, ints, clamps)))

-- amounts stay near, over any positions
goal_near : (d : Direction) (b : Backlash) → InRange b → Within 32767 (goal_of d b)
goal_near Up b r = none_near
goal_near Down b r = r.size

going_near : (d : Direction) (b : Backlash) (x z : ℤ) → InRange b → Within 32767 z → Within 32767 (going d b x z).amount
going_near d b x z r h = toward_near b.rate (goal_of d b) z r.slow (goal_near d b r) h

pub stepped_near : (b : Backlash) (s : TakeUp) (y : ℤ) → InRange b → Within 32767 s.amount → Within 32767 (stepped b s y).amount
stepped_near b s y r h =
    let d = s.direction in
    let x = farther d s.extreme y in
    cond_both (is_back d b.hysteresis x y) (going (reversed d) b y s.amount) (going d b x s.amount) (λ t. Within 32767 t.amount)
    (λ _. going_near (reversed d) b y s.amount r h) (λ _. going_near d b x s.amount r h)

pub steps_near : (b : Backlash) (s : TakeUp) (ys : List ℤ) → InRange b → Within 32767 s.amount → Within 32767 (steps b s ys).amount
steps_near b s [] r h = h
steps_near b s (y ∷ ys) r h = steps_near b (stepped b s y) ys r (stepped_near b s y r h)

-- the extreme stays near, over any positions that are
farther_near : (d : Direction) (x y : ℤ) → Within 1099511627776 x → Within 1099511627776 y → Within 1099511627776 (farther d x y)
farther_near Up x y (a, b) (c, e) = (omega (arith, ints, clamps), omega (arith, ints, clamps))
farther_near Down x y (a, b) (c, e) = (omega (arith, ints, clamps), omega (arith, ints, clamps))

pub stepped_held : (b : Backlash) (s : TakeUp) (y : ℤ) → Within 1099511627776 s.extreme → Within 1099511627776 y → Within 1099511627776 (stepped b s y).extreme
stepped_held b s y h k =
    let d = s.direction in
    let x = farther d s.extreme y in
    cond_both (is_back d b.hysteresis x y) (going (reversed d) b y s.amount) (going d b x s.amount) (λ t. Within 1099511627776 t.extreme)
    (λ _. k) (λ _. farther_near d s.extreme y h k)
