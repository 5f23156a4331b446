-- What a sheet holds is a table that there is.
use Rattle.std.proofs.Common.{◌≡◌, ℕ, ◌≤◌, true, leb, List, [], ◌∷◌, ℤ, pos, nat_abs, Some, None, Option, subst, arith}
use Rattle.std.specs.List.{AllByRecursion}
use Rattle.std.proofs.lemmas.Bool.{and_parts, and_from, le-leb, leb-true}
use Rattle.headings.specs.declared.heading.Heading.{Heading}
use Rattle.headings.specs.declared.heading.Heading.TheVariants.{Screw, Plane}
use Rattle.headings.specs.Heads.{head_of, within, in_range}
use Rattle.sheets.specs.declared.sheet.Sheet.{Sheet}
use Rattle.sheets.specs.declared.table.Table.{Table as HeldTable}
use Rattle.std.specs.Option.{option_map}
use Rattle.filled.specs.Items.{items}
use Rattle.sheets.specs.Tables.{Table, table_of, held, head_fits, Valid}

pub inside : (high n : ℕ) → (1 ≤ n) × (n ≤ high) → within high (pos n) ≡ true
inside high n h = and_from (leb 1 n) (leb n high) (le-leb 1 n h.0) (le-leb n high h.1)

pub fits_of : (h : Heading) → head_fits (head_of h) ≡ true
fits_of (Screw h) =
    and_from _ _ (inside 256 h.entries h.counted) (and_from _ _ (inside 8 h.source.number h.source.known) (and_from _ _ (inside 8 h.target.number h.target.known) (inside 16777216 h.span h.spanned)))
fits_of (Plane h) =
    and_from _ _ (inside 16 h.rows h.rowed) (and_from _ _ (inside 16 h.columns h.columned)
    (and_from _ _ (inside 8 h.row_motor.number h.row_motor.known) (and_from _ _ (inside 8 h.column_motor.number h.column_motor.known)
    (and_from _ _ (inside 8 h.target.number h.target.known) (and_from _ _ (inside 262144 h.row_span h.row_spanned) (inside 262144 h.column_span h.column_spanned))))))

pub all_of : (es : List ℤ) → in_range es ≡ true → AllByRecursion (λ z. nat_abs z ≤ 32767) es
all_of [] h = tt
all_of (z ∷ es) h = let p = and_parts (leb (nat_abs z) 32767) (in_range es) h in (leb-true (nat_abs z) 32767 p.0, all_of es p.1)

pub table_valid : (t : HeldTable) → Valid (table_of t)
table_valid t = record { heading = fits_of t.begun.heading; complete = t.whole; range = all_of (items t.begun.entries) t.begun.narrow }

pub held_in : (o : Option HeldTable) (t : Table) → option_map table_of o ≡ Some t → Valid t
held_in None t e = let w : ◌≡◌ {A = ℕ} 0 1 = cc in absurd (omega arith)
held_in (Some h) t e = let g : table_of h ≡ t = cc in subst Valid g (table_valid h)

pub held_valid : (s : Sheet) (t : Table) → held s ≡ Some t → Valid t
held_valid s t e = held_in s.table t e
