-- The loop over the axes of a cycle.
use Rattle.std.proofs.Common.{◌≡◌, ℕ, ◌+◌, ◌≤◌, ltb, List, [], ◌∷◌, ◌++◌, take, drop, refl, arith}
use Rattle.std.proofs.lemmas.Bool.{le-ltb, cond-false}
use Rattle.std.proofs.lemmas.List.{take-append-drop}
use Rattle.source.specs.Meaning.{Seen}
use Rattle.motor.specs.Motors.{MotorView, stepped}
use Rattle.mill.specs.Mills.{position, stepped_all}

-- i axes have taken their cycle, and the others have theirs to come
abbrev pub Driven : Seen → ℕ → List MotorView → List MotorView → Type 0
Driven s i ms all = take i ms ++ stepped_all s i (drop i ms) ≡ all

beyond : (s : Seen) (i : ℕ) (ms : List MotorView) → s.axes ≤ i → stepped_all s i ms ≡ ms
beyond s i [] h = refl
beyond s i (m ∷ ms) h = λ j. cond-false (ltb i s.axes) (stepped (position s i m) m) m (le-ltb i s.axes h) j ∷ beyond s (i + 1) ms (omega arith) j

pub driven_all : (s : Seen) (i : ℕ) (ms all : List MotorView) → s.axes ≤ i → Driven s i ms all → ms ≡ all
driven_all s i ms all h inv =
    let e : stepped_all s i (drop i ms) ≡ drop i ms = beyond s i (drop i ms) h in
    let w : take i ms ++ drop i ms ≡ ms = take-append-drop i ms in
    cc
