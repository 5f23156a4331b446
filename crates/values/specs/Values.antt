-- What a table says at a position: exactly, N / D, and to the nearest whole number.
use Rattle.std.specs.Prelude.{◌≡◌, ℕ, zero, suc, ◌+◌, ◌-◌, ◌*◌, ◌/◌, ◌%◌, List, ℤ, pos, ◌+ℤ◌, ◌*ℤ◌, Some, None, Ok, Err, Option, Result, slice_index_or, unsigned_abs}
use Rattle.std.specs.Int.{int_rem_euclid}
use Rattle.faults.specs.declared.fault.Fault.{Fault}
use Rattle.faults.specs.declared.fault.Refusal.TheVariants.{Incomplete}
use Rattle.rounding.specs.Round.{rounded}
use Rattle.headings.specs.Heads.{Head, screw, plane, sheet_fault}
use Rattle.sheets.specs.Tables.{Table}

-- where the position p lies in a span l that is cut into n parts: (p mod l) × n = place × l + part
abbrev pub phase : ℕ → ℤ → ℕ
phase l p = unsigned_abs (int_rem_euclid p (pos l))

abbrev pub place : ℕ → ℕ → ℤ → ℕ
place n l p = phase l p * n / l

abbrev pub part : ℕ → ℕ → ℤ → ℕ
part n l p = phase l p * n % l

-- entry k, counted from 1, and the value given for 0
abbrev pub counted : List ℤ → ℤ → ℕ → ℤ
counted vs v zero = v
counted vs v (suc k) = slice_index_or vs k (pos 0)

-- a screw of n entries: V₀ is entry n, and Vₖ is entry k
abbrev pub vertex : ℕ → List ℤ → ℕ → ℤ
vertex n vs k = counted vs (slice_index_or vs (n - 1) (pos 0)) k

-- a plane of c columns: V(0,0) is 0, the entries fill row 0 from column 1, and each later row from column 0
abbrev pub corner : ℕ → List ℤ → ℕ → ℕ → ℤ
corner c vs i j = counted vs (pos 0) (i * (c + 1) + j)

-- between v and w, f parts of l on the way, times l
abbrev pub between : ℕ → ℕ → ℤ → ℤ → ℤ
between l f v w = v *ℤ pos (l - f) +ℤ w *ℤ pos f

-- N of a screw of n entries over the span l
abbrev pub screw_numerator : ℕ → List ℤ → ℕ → ℤ → ℤ
screw_numerator n vs l p = between l (part n l p) (vertex n vs (place n l p)) (vertex n vs (place n l p + 1))

-- N of a plane of r rows over the span l and c columns over the span k
abbrev pub plane_numerator : ℕ → ℕ → List ℤ → ℕ → ℕ → ℤ → ℤ → ℤ
plane_numerator r c vs l k p q =
    between k (part c k q)
    (between l (part r l p) (corner c vs (place r l p) (place c k q)) (corner c vs (place r l p + 1) (place c k q)))
    (between l (part r l p) (corner c vs (place r l p) (place c k q + 1)) (corner c vs (place r l p + 1) (place c k q + 1)))

-- N, at the position p of the row axis and q of the column axis; a screw is read by the first alone
abbrev pub head_numerator : Head → List ℤ → ℤ → ℤ → ℤ
head_numerator (screw n s t c) vs p q = screw_numerator n vs (16 * c) p
head_numerator (plane r c s u t a b) vs p q = plane_numerator r c vs (16 * a) (16 * b) p q

abbrev pub numerator : Table → ℤ → ℤ → ℤ
numerator t p q = head_numerator t.head t.entries p q

-- D: the span in sixteenths, or the product of both
abbrev pub head_denominator : Head → ℕ
head_denominator (screw n s t c) = 16 * c
head_denominator (plane r c s u t a b) = (16 * a) * (16 * b)

abbrev pub denominator : Table → ℕ
denominator t = head_denominator t.head

-- ⌊N/D + 1/2⌋
abbrev pub value : Table → ℤ → ℤ → ℤ
value t p q = rounded (numerator t p q) (pos (denominator t))

-- the table stands on a point
abbrev pub HeadOnPoint : Head → ℤ → ℤ → Type 0
HeadOnPoint (screw n s t c) p q = part n (16 * c) p ≡ 0
HeadOnPoint (plane r c s u t a b) p q = (part r (16 * a) p ≡ 0) × (part c (16 * b) q ≡ 0)

abbrev pub OnPoint : Table → ℤ → ℤ → Type 0
OnPoint t p q = HeadOnPoint t.head p q

-- the entry of the point that a position stands on, or follows
abbrev pub head_point : Head → List ℤ → ℤ → ℤ → ℤ
head_point (screw n s t c) vs p q = vertex n vs (place n (16 * c) p)
head_point (plane r c s u t a b) vs p q = corner c vs (place r (16 * a) p) (place c (16 * b) q)

abbrev pub point : Table → ℤ → ℤ → ℤ
point t p q = head_point t.head t.entries p q

-- what a sheet answers: 7 where it is empty
abbrev pub value_answer : Option Table → ℤ → ℤ → Result ℤ Fault
value_answer None p q = Err (sheet_fault Incomplete)
value_answer (Some t) p q = Ok (value t p q)
