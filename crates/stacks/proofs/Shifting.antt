-- The rule of backlash does not notice a shift.
use Rattle.std.proofs.Common.{◌≡◌, Bool, true, false, cond, List, [], ◌∷◌, map, ℤ, ◌+ℤ◌, ◌-ℤ◌, refl, ap, ◌∙◌, arith}
use lib.Signed.{lt_z}
use Rattle.std.proofs.lemmas.Int.{ints}
use Rattle.std.specs.Int.{int_max, int_min}
use Rattle.backlash.specs.declared.backlash.Backlash.{Backlash}
use Rattle.backlash.specs.declared.backlash.Direction.{Direction}
use Rattle.backlash.specs.declared.backlash.Direction.TheVariants.{Up, Down}
use Rattle.backlash.specs.declared.backlash.TakeUp.{TakeUp}
use Rattle.backlash.specs.TakeUps.{fresh, going, reversed, farther, is_back, gone, stepped, steps, taken_up}

lt_shift : (a b k : ℤ) → lt_z (a +ℤ k) (b +ℤ k) ≡ lt_z a b
lt_shift a b k = grind (arith, ints)

abbrev shifted : ℤ → TakeUp → TakeUp
shifted k s = record { direction = s.direction; extreme = s.extreme +ℤ k; amount = s.amount }

cond_plus : (b : Bool) (x y k : ℤ) → cond b (x +ℤ k) (y +ℤ k) ≡ cond b x y +ℤ k
cond_plus true x y k = refl
cond_plus false x y k = refl

max_shift : (x y k : ℤ) → int_max (x +ℤ k) (y +ℤ k) ≡ int_max x y +ℤ k
max_shift x y k = ap (λ (b : Bool). cond b (x +ℤ k) (y +ℤ k)) (lt_shift y x k) ∙ cond_plus (lt_z y x) x y k

min_shift : (x y k : ℤ) → int_min (x +ℤ k) (y +ℤ k) ≡ int_min x y +ℤ k
min_shift x y k = ap (λ (b : Bool). cond b (y +ℤ k) (x +ℤ k)) (lt_shift y x k) ∙ cond_plus (lt_z y x) y x k

cond_shifted : (b : Bool) (k : ℤ) (s t : TakeUp) → cond b (shifted k s) (shifted k t) ≡ shifted k (cond b s t)
cond_shifted true k s t = refl
cond_shifted false k s t = refl

less_shift : (x h k : ℤ) → (x +ℤ k) -ℤ h ≡ (x -ℤ h) +ℤ k
less_shift x h k = omega (arith, ints)

plus_shift : (x h k : ℤ) → (x +ℤ k) +ℤ h ≡ (x +ℤ h) +ℤ k
plus_shift x h k = omega (arith, ints)

farther_shift : (d : Direction) (x y k : ℤ) → farther d (x +ℤ k) (y +ℤ k) ≡ farther d x y +ℤ k
farther_shift Up x y k = max_shift x y k
farther_shift Down x y k = min_shift x y k

back_shift : (d : Direction) (h x y k : ℤ) → is_back d h (x +ℤ k) (y +ℤ k) ≡ is_back d h x y
back_shift Up h x y k = ap (λ (v : ℤ). lt_z (y +ℤ k) v) (less_shift x h k) ∙ lt_shift y (x -ℤ h) k
back_shift Down h x y k = ap (λ (v : ℤ). lt_z v (y +ℤ k)) (plus_shift x h k) ∙ lt_shift (x +ℤ h) y k

gone_shift : (d : Direction) (b : Backlash) (x z y k : ℤ) → gone d b (x +ℤ k) z (y +ℤ k) ≡ shifted k (gone d b x z y)
gone_shift d b x z y k =
    ap (λ (c : Bool). cond c (going (reversed d) b (y +ℤ k) z) (going d b (x +ℤ k) z)) (back_shift d b.hysteresis x y k)
    ∙ cond_shifted (is_back d b.hysteresis x y) k (going (reversed d) b y z) (going d b x z)

step_shift : (b : Backlash) (s : TakeUp) (y k : ℤ) → stepped b (shifted k s) (y +ℤ k) ≡ shifted k (stepped b s y)
step_shift b s y k =
    ap (λ (x : ℤ). gone s.direction b x s.amount (y +ℤ k)) (farther_shift s.direction s.extreme y k)
    ∙ gone_shift s.direction b (farther s.direction s.extreme y) s.amount y k

steps_shift : (b : Backlash) (s : TakeUp) (ys : List ℤ) (k : ℤ) → steps b (shifted k s) (map (λ y. y +ℤ k) ys) ≡ shifted k (steps b s ys)
steps_shift b s [] k = refl
steps_shift b s (y ∷ ys) k =
    ap (λ (t : TakeUp). steps b t (map (λ v. v +ℤ k) ys)) (step_shift b s y k) ∙ steps_shift b (stepped b s y) ys k

pub taken_shift : (b : Backlash) (x k : ℤ) (ys : List ℤ) → taken_up b (x +ℤ k) (map (λ y. y +ℤ k) ys) ≡ taken_up b x ys
taken_shift b x k ys = ap (λ (s : TakeUp). s.amount) (steps_shift b (fresh x) ys k)
