-- The motors of a mill, each further on by its axis's shift.
use Rattle.std.proofs.Common.{◌≡◌, ℕ, zero, suc, ◌+◌, Bool, true, false, cond, ltb, List, [], ◌∷◌, map, get_or, take, set, ℤ, ◌+ℤ◌, refl, ap, ◌∙◌, arith}
use Rattle.std.proofs.lemmas.Bool.{ltb-true}
use Rattle.source.specs.Meaning.{Seen}
use Rattle.motor.specs.Motors.{MotorView, fresh, stepped}
use Rattle.mill.specs.Mills.{position, stepped_all, output_of}
use Rattle.stacks.specs.StackLaws.{Matching}
use Rattle.mills_law.specs.Pairs.{Shift}
use Rattle.mills_law.proofs.Likeness.{shifted, shifted_all}
use Rattle.mills_law.proofs.Shifts.{stepped_shift, position_shift}

pub at_shift : (K : Shift) (i : ℕ) (vs : List MotorView) (a : ℕ) → get_or (shifted_all K i vs) a fresh ≡ shifted (K (i + a)) (get_or vs a fresh)
at_shift K i [] a = refl
at_shift K i (v ∷ vs) zero = ap (λ (j : ℕ). shifted (K j) v) (omega arith)
at_shift K i (v ∷ vs) (suc a) =
    at_shift K (i + 1) vs a ∙ ap (λ (j : ℕ). shifted (K j) (get_or vs a fresh)) (let e : (i + 1) + a ≡ i + suc a = omega arith in e)

pub set_shift : (K : Shift) (i : ℕ) (vs : List MotorView) (a : ℕ) (v : MotorView) → set (shifted_all K i vs) a (shifted (K (i + a)) v) ≡ shifted_all K i (set vs a v)
set_shift K i [] a v = refl
set_shift K i (u ∷ vs) zero v = ap (λ (j : ℕ). shifted (K j) v ∷ shifted_all K (i + 1) vs) (let e : i + 0 ≡ i = omega arith in e)
set_shift K i (u ∷ vs) (suc a) v =
    ap (λ (j : ℕ). shifted (K i) u ∷ set (shifted_all K (i + 1) vs) a (shifted (K j) v)) (let e : i + suc a ≡ (i + 1) + a = omega arith in e)
    ∙ ap (λ (us : List MotorView). shifted (K i) u ∷ us) (set_shift K (i + 1) vs a v)

-- a step where the axis is there
one_step : (b : Bool) (k : ℤ) (v : MotorView) (x y : ℤ) → (b ≡ true → y ≡ x +ℤ k)
    → cond b (stepped y (shifted k v)) (shifted k v) ≡ shifted k (cond b (stepped x v) v)
one_step true k v x y h = ap (λ (z : ℤ). stepped z (shifted k v)) (h refl) ∙ stepped_shift k x v
one_step false k v x y h = refl

pub all_shift : (K : Shift) (e w : Seen) → Matching K e w → (i : ℕ) (vs : List MotorView) → stepped_all w i (shifted_all K i vs) ≡ shifted_all K i (stepped_all e i vs)
all_shift K e w h i [] = refl
all_shift K e w h i (v ∷ vs) =
    let here : cond (ltb i w.axes) (stepped (position w i (shifted (K i) v)) (shifted (K i) v)) (shifted (K i) v) ≡ shifted (K i) (cond (ltb i e.axes) (stepped (position e i v) v) v)
    = ap (λ (n : ℕ). cond (ltb i n) (stepped (position w i (shifted (K i) v)) (shifted (K i) v)) (shifted (K i) v)) h.axes
    ∙ one_step (ltb i e.axes) (K i) v (position e i v) (position w i (shifted (K i) v)) (λ b. position_shift K e w i v h (ltb-true i e.axes b)) in
    λ j. here j ∷ all_shift K e w h (i + 1) vs j

-- they put out the same
pub outputs_same : (K : Shift) (n i : ℕ) (vs : List MotorView) → map output_of (take n (shifted_all K i vs)) ≡ map output_of (take n vs)
outputs_same K zero i vs = refl
outputs_same K (suc n) i [] = refl
outputs_same K (suc n) i (v ∷ vs) = ap (λ (os : List ℤ). v.output ∷ os) (outputs_same K n (i + 1) vs)
