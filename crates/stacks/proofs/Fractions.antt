-- A sum of rounded values beside the sum of the fractions.
use Rattle.std.proofs.Common.{◌≡◌, ℕ, suc, ◌+◌, ◌*◌, Bool, true, false, cond, eqb, List, [], ◌∷◌, length, ℤ, pos, ◌+ℤ◌, ◌-ℤ◌, ◌*ℤ◌, Some, None, Option, sym, refl, ap, ◌∙◌, subst, mul_assoc, mul_comm, add-mul, arith}
use Rattle.std.proofs.lemmas.Int.{ints}
use Rattle.rounding.specs.Bounds.{Within}
use Rattle.rounding.proofs.Sums.{scale_within, sum_within, errors, exacts}
use Rattle.headings.specs.Heads.{row_axis, column_axis, target_axis}
use Rattle.sheets.specs.Tables.{Table, Valid, held}
use Rattle.sheets.proofs.Held.{held_valid}
use Rattle.source.specs.Meaning.{Seen}
use Rattle.values.specs.Values.{denominator, OnPoint}
use Rattle.values.proofs.Halves.{value_half}
use Rattle.values.proofs.Points.{value_on_points}
use Rattle.layers.specs.SheetLayers.{value_seen}
use Rattle.stacks.specs.Stack.{Layer, sheet, backlash, stacked, fitted, on_target, tables, backlashes, value_sum, backlash_sum, product, numerator_seen, exact_sum, OnPoints, table_correction}
use Rattle.stacks.specs.StackLaws.{Corrected, StacksCorrect}
use Rattle.stacks.proofs.Sums.{stacks_sum}

-- the tables of layers are tables that there are
abbrev AllValid : List Table → Type 0
AllValid [] = Unit {0}
AllValid (t ∷ ts) = Valid t × AllValid ts

cond_valid : (c : Bool) (t : Table) (ts : List Table) → Valid t → AllValid ts → AllValid (cond c (t ∷ ts) ts)
cond_valid true t ts h k = (h, k)
cond_valid false t ts h k = k

target_valid : (a : ℕ) (o : Option Table) (ts : List Table) → ((t : Table) → o ≡ Some t → Valid t) → AllValid ts → AllValid (on_target a o ts)
target_valid a None ts h k = k
target_valid a (Some t) ts h k = cond_valid (eqb a (target_axis t.head)) t ts (h t refl) k

pub tables_valid : (a : ℕ) (ls : List Layer) → AllValid (tables a ls)
tables_valid a [] = tt
tables_valid a (sheet s ∷ ls) = target_valid a (held s) (tables a ls) (held_valid s) (tables_valid a ls)
tables_valid a (backlash b ∷ ls) = tables_valid a ls

-- n tables more than one: n + 1 halves
one_more : (d p n : ℕ) → p * d + d * (n * p) ≡ suc n * (d * p)
one_more d p n =
    let a : d * (n * p) ≡ n * (d * p) = sym (mul_assoc d n p) ∙ ap (λ x. x * p) (mul_comm d n) ∙ mul_assoc n d p in
    let b = mul_comm p d in
    let c : (n + 1) * (d * p) ≡ n * (d * p) + 1 * (d * p) = add-mul n 1 (d * p) in
    let e : suc n ≡ n + 1 = omega arith in
    omega (arith, a, b, c, ap (λ x. x * (d * p)) e)

-- a table's value beside its fraction
table_half : (s : Seen) (t : Table) → Valid t → Within (denominator t) (pos 2 *ℤ (pos (denominator t) *ℤ value_seen t s) -ℤ pos 2 *ℤ numerator_seen t s)
table_half s t v = value_half t (s.bare (row_axis t.head)) (s.bare (column_axis t.head)) v

table_point : (s : Seen) (t : Table) → Valid t → OnPoint t (s.bare (row_axis t.head)) (s.bare (column_axis t.head)) → pos (denominator t) *ℤ value_seen t s ≡ numerator_seen t s
table_point s t v h =
    let e = value_on_points t (s.bare (row_axis t.head)) (s.bare (column_axis t.head)) v h in
    ap (λ (x : ℤ). pos (denominator t) *ℤ x) e.entry ∙ sym e.exact

half : (s : Seen) (ts : List Table) → AllValid ts → Within (length ts * product ts) (pos 2 *ℤ (pos (product ts) *ℤ value_sum s ts) -ℤ pos 2 *ℤ exact_sum s ts)
half s [] v = (omega (arith, ints), omega (arith, ints))
half s (t ∷ ts) v =
    let d = denominator t in
    let p = product ts in
    let x = value_seen t s in
    let y = numerator_seen t s in
    let a = scale_within p d (pos 2 *ℤ (pos d *ℤ x) -ℤ pos 2 *ℤ y) (table_half s t v.0) in
    let b = scale_within d (length ts * p) (pos 2 *ℤ (pos p *ℤ value_sum s ts) -ℤ pos 2 *ℤ exact_sum s ts) (half s ts v.1) in
    let c = sum_within (p * d) (d * (length ts * p)) _ _ a b in
    subst (λ (n : ℕ). Within n (pos 2 *ℤ (pos (d * p) *ℤ (x +ℤ value_sum s ts)) -ℤ pos 2 *ℤ (pos p *ℤ y +ℤ pos d *ℤ exact_sum s ts))) (one_more d p (length ts))
    (subst (λ (z : ℤ). Within (p * d + d * (length ts * p)) z) (sym (errors d p x (value_sum s ts) y (exact_sum s ts))) c)

points : (s : Seen) (ts : List Table) → AllValid ts → OnPoints s ts → pos (product ts) *ℤ value_sum s ts ≡ exact_sum s ts
points s [] v h = refl
points s (t ∷ ts) v h =
    exacts (denominator t) (product ts) (value_seen t s) (value_sum s ts) (numerator_seen t s) (exact_sum s ts) (table_point s t v.0 h.0) (points s ts v.1 h.1)

left_over : (o x y z : ℤ) → z ≡ o +ℤ (x +ℤ y) → (z -ℤ o) -ℤ y ≡ x
left_over o x y z e = omega (arith, ints)

pub stacks_correct : StacksCorrect
stacks_correct ls b rs a =
    let ts = tables a (fitted ls b) in
    let v = tables_valid a (fitted ls b) in
    let e : table_correction ls b rs a ≡ value_sum (b rs) (tables a (fitted ls b)) =
    left_over ((b rs).offset a) (value_sum (b rs) (tables a (fitted ls b))) (backlash_sum b rs (backlashes a (fitted ls b))) ((stacked ls b rs).offset a) (stacks_sum ls b rs a) in
    subst (λ (x : ℤ). Corrected ts (b rs) x) (sym e) (record { half = half (b rs) ts v; points = points (b rs) ts v })
