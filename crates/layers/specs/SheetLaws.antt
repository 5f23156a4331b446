-- A sheet layer keeps what every source keeps.
use Rattle.std.specs.Prelude.{◌≡◌, ℕ, ◌<◌, true, List, [], ◌∷◌, Some, None, Option, nat_lt, refl}
use Rattle.std.proofs.Common.{ap, arith}
use Rattle.std.proofs.lemmas.Int.{ints}
use Rattle.std.proofs.lemmas.Bool.{ltb-true}
use Rattle.rounding.specs.Bounds.{Within}
use Rattle.faults.specs.declared.fault.Fault.{Fault}
use Rattle.faults.specs.declared.fault.Part.TheVariants.{Sheet as Sheets}
use Rattle.headings.specs.Heads.{Head, row_axis, column_axis, target_axis}
use Rattle.sheets.specs.declared.sheet.Sheet.{Sheet}
use Rattle.sheets.specs.Tables.{Table, held}
use Rattle.sheets.proofs.Held.{held_valid}
use Rattle.source.specs.Meaning.{Seen, Meaning, Lawful, past, after, after_of}
use Rattle.values.proofs.Bounded.{value_near}
use Rattle.layers.specs.Laid.{laid, PassesThrough, laid_passes}
use Rattle.layers.specs.Below.{axis_fit, depth_fit, then_fit}
use Rattle.layers.specs.SheetLayers.{head_fit, sheet_fit, sheet_target, sheet_value, table_put, sheet_put}
use Rattle.layers.specs.Laying.{laid_lawful, none_of, both_none}

pub sheet_near : (sheet : Sheet) (s : Seen) → Within 32767 (sheet_value (held sheet) s)
sheet_near sheet s =
    elim (held sheet) as (λ o. held sheet ≡ o → Within 32767 (sheet_value o s)) [
      | None ↦ (λ e. (omega (arith, ints), omega (arith, ints)))
      | Some t ↦ (λ e. value_near t (s.bare (row_axis t.head)) (s.bare (column_axis t.head)) (held_valid sheet t e))
    ] refl

-- a heading that fits: all its axes are there, and there is room
pub record Fits (h : Head) (s : Seen) : Type 0 where
  pub row : nat_lt (row_axis h) s.axes ≡ true
  pub column : nat_lt (column_axis h) s.axes ≡ true
  pub target : nat_lt (target_axis h) s.axes ≡ true
  pub room : s.depth < 16

pub fits : (h : Head) (s : Seen) → head_fit h s ≡ None → Fits h s
fits h s e =
    let a = both_none (axis_fit Sheets (row_axis h) s) (then_fit (axis_fit Sheets (column_axis h) s) (then_fit (axis_fit Sheets (target_axis h) s) (depth_fit Sheets s))) e in
    let b = both_none (axis_fit Sheets (column_axis h) s) (then_fit (axis_fit Sheets (target_axis h) s) (depth_fit Sheets s)) a.1 in
    let c = both_none (axis_fit Sheets (target_axis h) s) (depth_fit Sheets s) b.1 in
    record { row = none_of _ _ a.0; column = none_of _ _ b.0; target = none_of _ _ c.0; room = ltb-true s.depth 16 (none_of _ _ c.1) }

pub sheet_room : (o : Option Table) (s : Seen) → sheet_fit o s ≡ None → s.depth < 16
sheet_room None s e = let z : ◌≡◌ {A = ℕ} 0 1 = cc in absurd (omega arith)
sheet_room (Some t) s e = (fits t.head s e).room

pub sheet_lawful : (sheet : Sheet) (m : Meaning) → Lawful m → Lawful (sheet_put sheet m)
sheet_lawful sheet m h =
    laid_lawful (sheet_fit (held sheet) (m [])) (sheet_target (held sheet)) (λ rs. sheet_value (held sheet) (m rs)) m (λ rs _. sheet_near sheet (m rs)) (sheet_room (held sheet) (m [])) h

pub sheet_fit_same : (o : Option Table) (s u : Seen) → u.axes ≡ s.axes → u.depth ≡ s.depth → sheet_fit o u ≡ sheet_fit o s
sheet_fit_same None s u e f = refl
sheet_fit_same (Some t) s u e f = rw (e, f) refl

after_one : (f : Option Fault) (o : Option Table) (m : Meaning) (row : List ℕ) → Lawful m → table_put o (after_of f m row) ≡ after_of f (table_put o m) row
after_one None o m row h =
    ap (λ (f : Option Fault). laid f (sheet_target o) (λ rs. sheet_value o (m (row ∷ rs))) (past m row))
    (sheet_fit_same o (m []) (m (row ∷ [])) (h.axes (row ∷ [])) (h.depth (row ∷ [])))
after_one (Some f) o m row h = refl

-- a row goes through a table to the source below
pub table_after : (o : Option Table) (m : Meaning) (row : List ℕ) → Lawful m → table_put o (after m row) ≡ after (table_put o m) row
table_after o m row h = after_one ((m []).refusal row) o m row h

pub sheet_after : (sheet : Sheet) (m : Meaning) (row : List ℕ) → Lawful m → sheet_put sheet (after m row) ≡ after (sheet_put sheet m) row
sheet_after sheet m row h = table_after (held sheet) m row h

pub sheet_passes : (sheet : Sheet) (m : Meaning) → PassesThrough m (sheet_put sheet m)
sheet_passes sheet m = laid_passes (sheet_fit (held sheet) (m [])) (sheet_target (held sheet)) (λ rs. sheet_value (held sheet) (m rs)) m
