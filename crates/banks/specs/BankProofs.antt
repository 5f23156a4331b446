-- A bank is a lawful source.
use Rattle.std.specs.Prelude.{◌≡◌, ℕ, zero, suc, ◌+◌, ◌<◌, ◌≤◌, Bool, true, false, cond, List, [], ◌∷◌, length, ℤ, Some, None, Option, slice_index, refl}
use Rattle.std.proofs.Common.{arith}
use Rattle.std.proofs.lemmas.Int.{ints}
use Rattle.faults.specs.declared.fault.Fault.{Fault}
use Rattle.faults.specs.declared.fault.Refusal.{Refusal}
use Rattle.faults.specs.declared.fault.Refusal.TheVariants.{ReadingTooWide, JumpTooLarge, PositionLimit}
use Rattle.source.specs.Meaning.{Lawful, Rows}
use Rattle.gauges.specs.Gauges.{place, travel, moved, too_wide, exceeds, reading_refusal}
use Rattle.gauges.specs.declared.gauge.Axis.{Axis}
use Rattle.gauges.specs.declared.gauge.Gauge.{Gauge}
use Rattle.rounding.specs.Bounds.{Within}
use Rattle.banks.specs.Axes.{axis_at, AllNear, overlaid}
use Rattle.banks.specs.Bank.{refused, refused_at, first_bad, row_bad, placed, length_refusal, bank_refusal, unless, standing, bank_means}

pub some_none : {X : Type 0} {A : Type 0} (x : X) → ◌≡◌ {A = Option X} (Some x) None → A
some_none x e = cc

chosen_none : {X : Type 0} (b : Bool) (r : X) (o : Option X) → cond b (Some r) o ≡ None → (b ≡ false) × (o ≡ None)
chosen_none true r o e = some_none r e
chosen_none false r o e = (refl, e)

pub refused_none : (o : Option Refusal) (more : Option Fault) → refused o more ≡ None → (o ≡ None) × (more ≡ None)
refused_none None more e = (refl, e)
refused_none (Some r) more e = some_none _ e

pub refused_at_none : (i : ℕ) (o : Option Refusal) (more : Option Fault) → refused_at i o more ≡ None → (o ≡ None) × (more ≡ None)
refused_at_none i None more e = (refl, e)
refused_at_none i (Some r) more e = some_none _ e

pub not_over : (n : ℕ) (z : ℤ) → exceeds n z ≡ false → Within n z
not_over n z e = grind (arith, ints)

-- what an accepted reading keeps to
pub reading_good : (g : Gauge) (most : ℕ) (a : Axis) (x : ℕ) → reading_refusal g most a x ≡ None
    → (too_wide g x ≡ false) × Within most (travel g a x) × Within 1099511627776 (place g a x)
reading_good g most a x e =
    let p = chosen_none (too_wide g x) ReadingTooWide (cond (exceeds most (travel g a x)) (Some JumpTooLarge) (cond (exceeds 1099511627776 (place g a x)) (Some PositionLimit) None)) e in
    let q = chosen_none (exceeds most (travel g a x)) JumpTooLarge (cond (exceeds 1099511627776 (place g a x)) (Some PositionLimit) None) p.1 in
    let r = chosen_none (exceeds 1099511627776 (place g a x)) PositionLimit None q.1 in
    (p.0, not_over most (travel g a x) q.0, not_over 1099511627776 (place g a x) r.0)

-- every reading of an accepted row is good
pub all_good : (f : ℕ → ℕ → Option Refusal) (i : ℕ) (xs : List ℕ) (j : ℕ) → first_bad f i xs ≡ None → j < length xs → f (i + j) (slice_index xs j) ≡ None
all_good f i [] j e lt = absurd (omega arith)
all_good f i (x ∷ xs) zero e lt =
    let same : i + zero ≡ i = omega arith in rw same (refused_at_none i (f i x) (first_bad f (i + 1) xs) e).0
all_good f i (x ∷ xs) (suc j) e lt =
    let same : i + suc j ≡ (i + 1) + j = omega arith in
    rw same (all_good f (i + 1) xs j (refused_at_none i (f i x) (first_bad f (i + 1) xs) e).1 (omega arith))

-- an axis that has a reading becomes what is made of the two
pub overlaid_at : (h : Axis → ℕ → Axis) (held : List Axis) (xs : List ℕ) (i : ℕ) → i < length xs → i < length held → axis_at (overlaid h held xs) i ≡ h (axis_at held i) (slice_index xs i)
overlaid_at h held [] i lx lh = absurd (omega arith)
overlaid_at h [] (x ∷ xs) i lx lh = absurd (omega arith)
overlaid_at h (a ∷ held) (x ∷ xs) zero lx lh = refl
overlaid_at h (a ∷ held) (x ∷ xs) (suc i) lx lh = overlaid_at h held xs i (omega arith) (omega arith)

-- axes are near where each that has a reading becomes a near one
overlaid_near : (h : Axis → ℕ → Axis) (held : List Axis) (xs : List ℕ)
    → ((i : ℕ) → i < length xs → Within 1099511627776 (h (axis_at held i) (slice_index xs i)).position)
    → AllNear held → AllNear (overlaid h held xs)
overlaid_near h held [] made near i = near i
overlaid_near h [] (x ∷ xs) made near i = near i
overlaid_near h (a ∷ held) (x ∷ xs) made near zero = made zero (omega arith)
overlaid_near h (a ∷ held) (x ∷ xs) made near (suc i) =
    overlaid_near h held xs (λ j lt. made (suc j) (omega arith)) (λ j. near (suc j)) i

pub placed_near : (g : Gauge) (most : ℕ) (held : List Axis) (row : List ℕ) → first_bad (row_bad g most held) 0 row ≡ None → AllNear held → AllNear (placed g held row)
placed_near g most held row e near =
    overlaid_near (moved g) held row
    (λ i lt. let same : 0 + i ≡ i = omega arith in
    (reading_good g most (axis_at held i) (slice_index row i) (rw same at (all_good (row_bad g most held) 0 row i e lt))).2)
    near

unless_near : (g : Gauge) (n most : ℕ) (held : List Axis) (row : List ℕ) (o : Option Fault) → bank_refusal g n most held row ≡ o → AllNear held → AllNear (unless o held (placed g held row))
unless_near g n most held row None e near =
    placed_near g most held row (refused_none (length_refusal n row) (first_bad (row_bad g most held) 0 row) e).1 near
unless_near g n most held row (Some f) e near = near

pub standing_near : (g : Gauge) (n most : ℕ) (held : List Axis) (rs : Rows) → AllNear held → AllNear (standing g n most held rs)
standing_near g n most held [] near = near
standing_near g n most held (r ∷ rs) near =
    standing_near g n most (unless (bank_refusal g n most held r) held (placed g held r)) rs
    (unless_near g n most held r (bank_refusal g n most held r) refl near)

pub bank_lawful : (g : Gauge) (n most : ℕ) (held : List Axis) → n ≤ 8 → AllNear held → Lawful (bank_means g n most held)
bank_lawful g n most held few near = record {
  axes = λ rs. refl;
  depth = λ rs. refl;
  few = few;
  shallow = omega arith;
  bare = λ rs a. standing_near g n most held rs near a;
  offset = λ rs a. (omega (arith, ints), omega (arith, ints));
}
