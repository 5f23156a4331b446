-- The laws of a table's value, over every table that there is and every position.
use Rattle.std.specs.Prelude.{◌≡◌, ℕ, ◌*◌, ◌≤◌, ℤ, pos, ◌+ℤ◌, ◌-ℤ◌, ◌*ℤ◌, unsigned_abs}
use Rattle.std.specs.List.{AllByRecursion}
use Rattle.rounding.specs.Bounds.{Within}
use Rattle.headings.specs.Heads.{Head, screw, plane}
use Rattle.sheets.specs.Tables.{Table, Valid}
use Rattle.values.specs.Values.{numerator, denominator, value, OnPoint, point}

-- off the exact value by at most one half
abbrev pub ValueHalf : Type 0
ValueHalf = (t : Table) (p q : ℤ) → Valid t → Within (denominator t) (pos 2 *ℤ (pos (denominator t) *ℤ value t p q) -ℤ pos 2 *ℤ numerator t p q)

-- on a point the exact value is the entry of that point, and so is the value
pub record Stands (t : Table) (p q : ℤ) : Type 0 where
  pub exact : numerator t p q ≡ pos (denominator t) *ℤ point t p q
  pub entry : value t p q ≡ point t p q

abbrev pub ValueOnPoints : Type 0
ValueOnPoints = (t : Table) (p q : ℤ) → Valid t → OnPoint t p q → Stands t p q

-- k is a whole multiple of the span that a table reads its rows by, and m of that for its columns
abbrev pub WholeMultiple : ℕ → ℤ → Type 0
WholeMultiple l k = (m : ℤ) × (k ≡ m *ℤ pos l)

abbrev pub HeadSpans : Head → ℤ → ℤ → Type 0
HeadSpans (screw n s t c) k m = WholeMultiple (16 * c) k
HeadSpans (plane r c s u t a b) k m = WholeMultiple (16 * a) k × WholeMultiple (16 * b) m

abbrev pub Spans : Table → ℤ → ℤ → Type 0
Spans t k m = HeadSpans t.head k m

-- a shift by whole spans changes neither the exact value nor the value
abbrev pub ValueRepeats : Type 0
ValueRepeats = (t : Table) (p q k m : ℤ) → Valid t → Spans t k m → (numerator t (p +ℤ k) (q +ℤ m) ≡ numerator t p q) × (value t (p +ℤ k) (q +ℤ m) ≡ value t p q)

-- no value is larger than the largest entry
abbrev pub ValueBounded : Type 0
ValueBounded = (t : Table) (p q : ℤ) (n : ℕ) → Valid t → AllByRecursion (λ z. unsigned_abs z ≤ n) t.entries → Within n (value t p q)

pub record ValueLaws : Type 0 where
  pub half : ValueHalf
  pub points : ValueOnPoints
  pub repeats : ValueRepeats
  pub bounded : ValueBounded
