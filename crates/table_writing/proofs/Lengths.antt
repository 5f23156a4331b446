-- A table's text has room on a page.
use Rattle.std.proofs.Common.{ℕ, ◌+◌, ◌*◌, ◌<◌, ◌≤◌, List, [], ◌∷◌, ◌++◌, map, length, ℤ, pos, negsuc, nat_abs, codes, decimal, ap, arith}
use Rattle.std.specs.Fmt.{signed_decimal}
use Rattle.std.specs.List.{AllByRecursion}
use Rattle.std.proofs.lemmas.Fmt.{length-decimal-le, length_signed_le}
use Rattle.std.proofs.lemmas.List.{length-append}
use Rattle.lines.specs.Lines.{CLOSE, joined_lines}
use Rattle.headings.specs.declared.heading.Heading.{Heading}
use Rattle.headings.specs.declared.heading.Heading.TheVariants.{Screw, Plane}
use Rattle.headings.specs.Heads.{head_of}
use Rattle.filled.specs.Items.{items}
use Rattle.filled.proofs.Filling.{length-items-le}
use Rattle.sheets.specs.declared.table.Table.{Table as HeldTable}
use Rattle.sheets.specs.Tables.{table_of}
use Rattle.sheets.proofs.Held.{all_of}
use Rattle.table_writing.specs.TableTexts.{heading_line, text_of}
use Rattle.table_writing.proofs.Rows.{joined_append}

pub entry_length : (z : ℤ) → nat_abs z ≤ 32767 → length (signed_decimal z) ≤ 6
entry_length (pos n) h = length_signed_le 5 (pos n) (omega arith) (omega arith)
entry_length (negsuc n) h = length_signed_le 5 (negsuc n) (omega arith) (omega arith)

pub rows_length : (es : List ℤ) → AllByRecursion (λ z. nat_abs z ≤ 32767) es → length (joined_lines (map signed_decimal es) []) ≤ 7 * length es
rows_length [] a = omega arith
rows_length (z ∷ es) a = omega (arith, length-append (signed_decimal z) (10 ∷ joined_lines (map signed_decimal es) []), entry_length z a.0, rows_length es a.1)

pub field_length : (p rest : List ℕ) (n k m : ℕ) → n < 100000000 → length p ≤ k → length rest ≤ m → length (p ++ (decimal n ++ rest)) ≤ k + (8 + m)
field_length p rest n k m h a b =
    omega (arith, length-append p (decimal n ++ rest), length-append (decimal n) rest, length-decimal-le 8 n (omega arith) h (omega arith))

pub last_length : (p : List ℕ) (n k : ℕ) → n < 100000000 → length p ≤ k → length (p ++ decimal n) ≤ k + 8
last_length p n k h a = omega (arith, length-append p (decimal n), length-decimal-le 8 n (omega arith) h (omega arith))

pub upto : (m n : ℕ) → m ≤ n → n ≤ 100 → m ≤ 100
upto m n h k = omega arith

pub heading_length : (h : Heading) → length (heading_line (head_of h)) ≤ 100
unfolding heading_line
heading_length (Screw h) =
    upto _ 49
    (field_length (codes "DEFINE COMP ") _ h.entries 12 29 (omega (arith, h.counted.1)) (omega arith)
    (field_length (codes ",#") _ h.source.number 2 19 (omega (arith, h.source.known.1)) (omega arith)
    (field_length (codes ",#") _ h.target.number 2 9 (omega (arith, h.target.known.1)) (omega arith)
    (last_length (codes ",") h.span 1 (omega (arith, h.spanned.1)) (omega arith)))))
    (omega arith)
heading_length (Plane h) =
    upto _ 77
    (field_length (codes "DEFINE COMP ") _ h.rows 12 57 (omega (arith, h.rowed.1)) (omega arith)
    (field_length (codes ".") _ h.columns 1 48 (omega (arith, h.columned.1)) (omega arith)
    (field_length (codes ",#") _ h.row_motor.number 2 38 (omega (arith, h.row_motor.known.1)) (omega arith)
    (field_length (codes ",#") _ h.column_motor.number 2 28 (omega (arith, h.column_motor.known.1)) (omega arith)
    (field_length (codes ",#") _ h.target.number 2 18 (omega (arith, h.target.known.1)) (omega arith)
    (field_length (codes ",") _ h.row_span 1 9 (omega (arith, h.row_spanned.1)) (omega arith)
    (last_length (codes ",") h.column_span 1 (omega (arith, h.column_spanned.1)) (omega arith))))))))
    (omega arith)

-- the whole text of a table
pub text_length : (t : HeldTable) → length (text_of (table_of t)) ≤ 2304
text_length t =
    let es = items t.begun.entries in
    let hl = heading_line (head_of t.begun.heading) in
    let rest = joined_lines (map signed_decimal es ++ CLOSE ∷ []) [] in
    omega (
      arith,
      length-append hl (10 ∷ rest),
      ap length (joined_append (map signed_decimal es) (CLOSE ∷ [])),
      length-append (joined_lines (map signed_decimal es) []) (CLOSE ++ 10 ∷ []),
      heading_length t.begun.heading,
      rows_length es (all_of es t.begun.narrow),
      length-items-le t.begun.entries,
    )
