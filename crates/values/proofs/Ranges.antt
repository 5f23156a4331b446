-- The spans of a table that there is are not empty.
use Rattle.std.proofs.Common.{◌≡◌, ℕ, ◌*◌, ◌≤◌, true, ◌&&◌, leb, pos, mul-le-mul, arith}
use Rattle.std.proofs.lemmas.Bool.{and_parts, leb-true}
use Rattle.headings.specs.Heads.{Head, screw, plane, within}
use Rattle.sheets.specs.Tables.{head_fits}
use Rattle.values.specs.Values.{head_denominator}

some : (high n : ℕ) → within high (pos n) ≡ true → 1 ≤ n
some high n h = leb-true 1 n (and_parts (leb 1 n) (leb n high) h).0

pub screw_span : (n s t c : ℕ) → head_fits (screw n s t c) ≡ true → 1 ≤ 16 * c
screw_span n s t c h =
    let a = (and_parts (within 256 (pos n)) (within 8 (pos s) && (within 8 (pos t) && within 16777216 (pos c))) h).1 in
    let b = (and_parts (within 8 (pos s)) (within 8 (pos t) && within 16777216 (pos c)) a).1 in
    let d = (and_parts (within 8 (pos t)) (within 16777216 (pos c)) b).1 in
    omega (arith, some 16777216 c d)

pub plane_spans : (r c s u t a b : ℕ) → head_fits (plane r c s u t a b) ≡ true → (1 ≤ 16 * a) × (1 ≤ 16 * b)
plane_spans r c s u t a b h =
    let d = (and_parts (within 16 (pos r)) _ h).1 in
    let e = (and_parts (within 16 (pos c)) _ d).1 in
    let f = (and_parts (within 8 (pos s)) _ e).1 in
    let g = (and_parts (within 8 (pos u)) _ f).1 in
    let i = (and_parts (within 8 (pos t)) _ g).1 in
    let j = and_parts (within 262144 (pos a)) (within 262144 (pos b)) i in
    (omega (arith, some 262144 a j.0), omega (arith, some 262144 b j.1))

pub positive : (h : Head) → head_fits h ≡ true → 1 ≤ head_denominator h
positive (screw n s t c) h = screw_span n s t c h
positive (plane r c s u t a b) h = let e = plane_spans r c s u t a b h in mul-le-mul e.0 e.1
