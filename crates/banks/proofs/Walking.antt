-- A row, walked axis by axis.
use Rattle.std.specs.Prelude.{◌≡◌, ℕ, zero, suc, ◌+◌, ◌<◌, List, [], ◌∷◌, ◌++◌, length, take, drop, Some, None, Ok, Err, Option, Result, slice_index_or, refl}
use Rattle.std.proofs.Common.{sym, ◌∙◌, ap, arith}
use Rattle.std.proofs.lemmas.List.{at_drop_more}
use Rattle.faults.specs.declared.fault.Fault.{Fault}
use Rattle.faults.specs.declared.fault.Refusal.{Refusal}
use Rattle.gauges.specs.Gauges.{outcome}
use Rattle.gauges.specs.declared.gauge.Axis.{Axis}
use Rattle.rounding.specs.Bounds.{Within}
use Rattle.banks.specs.Axes.{axis_at, AllNear, overlaid}
use Rattle.banks.specs.Bank.{refused_at, first_bad, named}

pub named_ok : (i : ℕ) (o : Option Refusal) (a b : Axis) → named i (outcome o a) ≡ Ok b → (o ≡ None) × (a ≡ b)
named_ok i None a b e = (refl, (cc))
named_ok i (Some r) a b e = cc

-- a refused axis refuses the row, whatever comes after it
pub named_err : (i : ℕ) (o : Option Refusal) (a : Axis) (f : Fault) (more : Option Fault) → named i (outcome o a) ≡ Err f → refused_at i o more ≡ Some f
named_err i None a f more e = cc
named_err i (Some r) a f more e = cc

pub bad_here : {X : Type 0} (f : ℕ → ℕ → Option Refusal) (xs : List ℕ) (i d : ℕ) (a : Axis) (e : Fault) (all : X) → i < length xs
    → named i (outcome (f i (slice_index_or xs i d)) a) ≡ Err e → first_bad f i (drop i xs) ≡ first_bad f 0 xs
    → ◌≡◌ {A = Result X Fault} (Err e) (outcome (first_bad f 0 xs) all)
bad_here f xs i d a e all lt h inv =
    let left : first_bad f i (drop i xs) ≡ refused_at i (f i (slice_index_or xs i d)) (first_bad f (i + 1) (drop (i + 1) xs)) = at_drop_more (first_bad f i) xs i d lt in
    let found : first_bad f 0 xs ≡ Some e = sym inv ∙ left ∙ named_err i (f i (slice_index_or xs i d)) a e (first_bad f (i + 1) (drop (i + 1) xs)) h in
    rw found refl

pub good_more : (f : ℕ → ℕ → Option Refusal) (xs : List ℕ) (i d : ℕ) → i < length xs → f i (slice_index_or xs i d) ≡ None → first_bad f i (drop i xs) ≡ first_bad f 0 xs
    → first_bad f (i + 1) (drop (i + 1) xs) ≡ first_bad f 0 xs
good_more f xs i d lt h inv =
    let left : first_bad f i (drop i xs) ≡ refused_at i (f i (slice_index_or xs i d)) (first_bad f (i + 1) (drop (i + 1) xs)) = at_drop_more (first_bad f i) xs i d lt in
    sym (rw h at left) ∙ inv

pub overlaid_more : (h : Axis → ℕ → Axis) (held : List Axis) (xs : List ℕ) (i d : ℕ) → i < length xs → i < length held
    → overlaid h (take i held) (take i xs) ++ h (axis_at held i) (slice_index_or xs i d) ∷ [] ≡ overlaid h (take (suc i) held) (take (suc i) xs)
overlaid_more h held [] i d lx lh = absurd (omega arith)
overlaid_more h [] (x ∷ xs) i d lx lh = absurd (omega arith)
overlaid_more h (a ∷ held) (x ∷ xs) zero d lx lh = refl
overlaid_more h (a ∷ held) (x ∷ xs) (suc i) d lx lh = ap (λ (zs : List Axis). h a x ∷ zs) (overlaid_more h held xs i d (omega arith) (omega arith))

-- one near axis more
pub pushed_near : (held : List Axis) (a : Axis) → Within 1099511627776 a.position → AllNear held → AllNear (held ++ a ∷ [])
pushed_near [] a h near zero = h
pushed_near [] a h near (suc j) = near j
pushed_near (b ∷ held) a h near zero = near zero
pushed_near (b ∷ held) a h near (suc j) = pushed_near held a h (λ k. near (suc k)) j
