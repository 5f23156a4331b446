-- A value is not larger than the largest entry.
use Rattle.std.proofs.Common.{◌≡◌, ℕ, ◌+◌, ◌-◌, ◌*◌, ◌≤◌, true, List, get_or, ℤ, pos, ◌*ℤ◌, neg_ℤ, nat_abs, ◌≤ℤ◌, mul_comm, sym, subst, arith}
use Rattle.std.specs.List.{AllByRecursion}
use Rattle.std.proofs.lemmas.Nat.{mod_below}
use Rattle.std.proofs.lemmas.Int.{ints}
use Rattle.rounding.specs.Bounds.{Within}
use Rattle.rounding.proofs.RoundingLaws as laws
use Rattle.rounding.proofs.Sums.{regroup}
use Rattle.headings.specs.Heads.{Head, screw, plane}
use Rattle.sheets.specs.declared.table.Table.{Table as HeldTable}
use Rattle.sheets.specs.Tables.{Table, Valid, head_fits, table_of}
use Rattle.sheets.proofs.Held.{table_valid}
use Rattle.values.specs.Values.{phase, place, part, corner, between, numerator, denominator, value, head_numerator, head_denominator}
use Rattle.values.specs.ValueLaws.{ValueBounded}
use Rattle.values.proofs.Between.{between_low, between_high}
use Rattle.values.proofs.Entries.{none_within, entry_within, counted_within}
use Rattle.values.proofs.Ranges.{screw_span, plane_spans, positive}

part_below : (n l : ℕ) (p : ℤ) → 1 ≤ l → part n l p ≤ l
part_below n l p h = omega (arith, mod_below (phase l p * n) l h)

-- the exact value lies between the bounds, times the denominator
exact_bounds : (h : Head) (vs : List ℤ) (p q : ℤ) (n : ℕ) → head_fits h ≡ true → AllByRecursion (λ z. nat_abs z ≤ n) vs
    → ((pos (head_denominator h) *ℤ neg_ℤ (pos n)) ≤ℤ head_numerator h vs p q) × (head_numerator h vs p q ≤ℤ (pos (head_denominator h) *ℤ pos n))
exact_bounds (screw m s t c) vs p q n f e =
    let l = 16 * c in
    let i = part_below m l p (screw_span m s t c f) in
    let last = entry_within n vs (m - 1) e in
    let v = counted_within n vs (get_or vs (m - 1) (pos 0)) (place m l p) e last in
    let w = counted_within n vs (get_or vs (m - 1) (pos 0)) (place m l p + 1) e last in (
      between_low l (part m l p) (neg_ℤ (pos n)) _ _ i v.0 w.0,
      between_high l (part m l p) (pos n) _ _ i v.1 w.1,
    )
exact_bounds (plane r c s u t a b) vs p q n f e =
    let l = 16 * a in
    let k = 16 * b in
    let g = plane_spans r c s u t a b f in
    let i = part_below r l p g.0 in
    let j = part_below c k q g.1 in
    let at : (x y : ℕ) → Within n (corner c vs x y) = λ x y. counted_within n vs (pos 0) (x * (c + 1) + y) e (none_within n) in
    let x = place r l p in
    let y = place c k q in
    let low : (z : ℕ) → (pos l *ℤ neg_ℤ (pos n)) ≤ℤ between l (part r l p) (corner c vs x z) (corner c vs (x + 1) z) = λ z. between_low l (part r l p) (neg_ℤ (pos n)) _ _ i (at x z).0 (at (x + 1) z).0 in
    let high : (z : ℕ) → between l (part r l p) (corner c vs x z) (corner c vs (x + 1) z) ≤ℤ (pos l *ℤ pos n) = λ z. between_high l (part r l p) (pos n) _ _ i (at x z).1 (at (x + 1) z).1 in (
      rw (mul_comm l k, ← regroup k l (neg_ℤ (pos n))) (between_low k (part c k q) (pos l *ℤ neg_ℤ (pos n)) _ _ j (low y) (low (y + 1))),
      rw (mul_comm l k, ← regroup k l (pos n)) (between_high k (part c k q) (pos l *ℤ pos n) _ _ j (high y) (high (y + 1))),
    )

pub value_bounded : ValueBounded
value_bounded t p q n h e =
    let x = exact_bounds t.head t.entries p q n h.heading e in
    let d : 1 ≤ denominator t = positive t.head h.heading in
    laws.within (numerator t p q) (pos (denominator t)) (neg_ℤ (pos n)) (pos n) (omega (arith, ints)) x.0 x.1

-- the bound of entries bounds each value
pub value_near : (t : Table) (p q : ℤ) → Valid t → Within 32767 (value t p q)
value_near t p q h = value_bounded t p q 32767 h h.range

-- and so is the value of what a sheet holds
pub table_near : (t : HeldTable) (row column v : ℤ) → v ≡ value (table_of t) row column → Within 32767 v
table_near t row column v e = subst (λ (z : ℤ). Within 32767 z) (sym e) (value_near (table_of t) row column (table_valid t))
