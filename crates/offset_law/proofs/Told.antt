-- Each reported offset is the table's value at the reported position.
use Rattle.std.proofs.Common.{◌≡◌, ℕ, zero, suc, ◌+◌, ◌≤◌, Bool, true, cond, eqb, ltb, List, [], ◌∷◌, take, drop, ℤ, pos, ◌+ℤ◌, Some, None, Ok, Err, Option, Result, sym, refl, ap, ◌∙◌, subst, arith, lit≤}
use Rattle.std.specs.List.{AllByRecursion}
use Rattle.std.specs.Result.{result_map_both}
use Rattle.std.proofs.lemmas.Int.{ints}
use Rattle.std.proofs.lemmas.Bool.{ltb-true, eq-eqb}
use Rattle.banks.specs.Axes.{AllNear}
use Rattle.banks.specs.Bank.{bank_means, set_up_refusal, started}
use Rattle.banks.specs.BankProofs.{bank_lawful}
use Rattle.faults.specs.Faults.{at_line}
use Rattle.faults.specs.declared.fault.Fault.{Fault}
use Rattle.faults.specs.declared.fault.Refusal.{Refusal}
use Rattle.gauges.specs.declared.gauge.Axis.{Axis}
use Rattle.gauges.specs.declared.gauge.Gauge.TheVariants.{Encoder}
use Rattle.headings.specs.Heads.{row_axis, column_axis, target_axis}
use Rattle.layers.specs.Laid.{share}
use Rattle.layers.specs.SheetLayers.{sheet_fit, table_put, value_seen}
use Rattle.layers.specs.SheetLaws.{fits, sheet_fit_same, table_after}
use Rattle.rounding.specs.Bounds.{Within}
use Rattle.sheets.specs.Tables.{Table, Valid}
use Rattle.source.specs.Meaning.{Rows, Meaning, Lawful, no_axis, answer_of, past, after, after_of}
use Rattle.values.specs.Values.{value}
use Rattle.values.proofs.Halves.{value_half}
use Rattle.values.proofs.Points.{value_on_points}
use Rattle.text_law.proofs.WholeTexts.{law_only}
use Rattle.offset_report.specs.Inputs.{table_length, readings_from}
use Rattle.offset_report.specs.Offsets.{started_by, close_line, put_on, start, after_table}
use Rattle.offset_report.specs.Readings.{seen_at, offered_at, said_at, after_reading, said}
use Rattle.offset_report.specs.Reports.{Report}
use Rattle.offset_law.specs.OffsetLaws.{Corrects, Told, OffsetsCorrect}

-- a source of one axis with no offset of its own
pub record Single (b : Meaning) : Type 0 where
  pub axes : (rs : Rows) → (b rs).axes ≡ 1
  pub offset : (rs : Rows) → (b rs).offset 0 ≡ pos 0
  pub lawful : Lawful b

past_lawful : (m : Meaning) (row : List ℕ) → Lawful m → Lawful (past m row)
past_lawful m row h = record {
  axes = λ rs. h.axes (row ∷ rs) ∙ sym (h.axes (row ∷ []));
  depth = λ rs. h.depth (row ∷ rs) ∙ sym (h.depth (row ∷ []));
  few = subst (λ n. n ≤ 8) (sym (h.axes (row ∷ []))) h.few;
  shallow = subst (λ n. n ≤ 16) (sym (h.depth (row ∷ []))) h.shallow;
  bare = λ rs. h.bare (row ∷ rs);
  offset = λ rs. h.offset (row ∷ rs);
}

-- the table fits on such a source, now and after each row
pub record Standing (t : Table) (b : Meaning) : Type 0 where
  pub single : Single b
  pub fit : sheet_fit (Some t) (b []) ≡ None

stands_on : (o : Option Fault) (t : Table) (b : Meaning) (row : List ℕ) → Standing t b → Standing t (after_of o b row)
stands_on (Some f) t b row h = h
stands_on None t b row h =
    let s = h.single in
    let l = s.lawful in
    record {
      single = record { axes = λ rs. s.axes (row ∷ rs); offset = λ rs. s.offset (row ∷ rs); lawful = past_lawful b row l };
      fit = sheet_fit_same (Some t) (b []) (b (row ∷ [])) (l.axes (row ∷ [])) (l.depth (row ∷ [])) ∙ h.fit;
    }

only_axis : (a n : ℕ) → n ≡ 1 → ltb a n ≡ true → a ≡ 0
only_axis a n e h = omega (arith, ltb-true a n h)

-- the offset of the axis is the value at its position
value_shown : (t : Table) (b : Meaning) → Standing t b → (table_put (Some t) b []).offset 0 ≡ value t ((b []).bare 0) ((b []).bare 0)
value_shown t b h =
    let s = h.single in
    let f = fits t.head (b []) h.fit in
    let one = s.axes [] in
    let row = only_axis (row_axis t.head) (b []).axes one f.row in
    let column = only_axis (column_axis t.head) (b []).axes one f.column in
    let target = eq-eqb 0 (target_axis t.head) (sym (only_axis (target_axis t.head) (b []).axes one f.target)) in
    let x = value_seen t (b []) in
    let zero_more : (z : ℤ) → pos 0 +ℤ z ≡ z = λ z. omega (arith, ints) in
    ap (λ (o : Option Fault). (b []).offset 0 +ℤ share o (eqb 0 (target_axis t.head)) (value_seen t (b []))) h.fit
    ∙ ap (λ (here : Bool). (b []).offset 0 +ℤ cond here (value_seen t (b [])) (pos 0)) target
    ∙ ap (λ (z : ℤ). z +ℤ value_seen t (b [])) (s.offset [])
    ∙ zero_more (value_seen t (b []))
    ∙ ap (λ (a : ℕ). value t ((b []).bare a) ((b []).bare (column_axis t.head))) row
    ∙ ap (λ (a : ℕ). value t ((b []).bare 0) ((b []).bare a)) column

shown : (t : Table) (b : Meaning) (k : ℕ) → Standing t b → seen_at k (table_put (Some t) b []) ≡ Ok (record { line = k; bare = (b []).bare 0; offset = value t ((b []).bare 0) ((b []).bare 0) })
shown t b k h =
    let here : ltb 0 (b []).axes ≡ true = ap (ltb 0) (h.single.axes []) in
    ap (λ (c : Bool). elim (cond c (Ok ((b []).bare 0)) (Err (no_axis 0))) [
      | Err f ↦ Err (at_line k f)
      | Ok p ↦ elim (cond c (Ok ((table_put (Some t) b []).offset 0)) (Err (no_axis 0))) [ Err f ↦ Err (at_line k f) | Ok o ↦ Ok (record { line = k; bare = p; offset = o }) ]
    ]) here
    ∙ ap (λ (o : ℤ). Ok (record { line = k; bare = (b []).bare 0; offset = o })) (value_shown t b h)

corrects : (t : Table) (p : ℤ) → Valid t → Within 1099511627776 p → Corrects t p (value t p p)
corrects t p v w = record { limit = w; half = value_half t p p v; points = λ on. (value_on_points t p p v on).entry }

told_seen : (t : Table) (b : Meaning) (k : ℕ) → Valid t → Standing t b → Told t (seen_at k (table_put (Some t) b []))
told_seen t b k v h = subst (Told t) (sym (shown t b k h)) (corrects t ((b []).bare 0) v (h.single.lawful.bare [] 0))

told_offered : (t : Table) (b : Meaning) (k : ℕ) (o : Option Fault) → Valid t → Standing t b → Told t (offered_at k o (table_put (Some t) b []))
told_offered t b k None v h = told_seen t b k v h
told_offered t b k (Some f) v h = tt

told_said : (t : Table) (b : Meaning) (rs : List (ℕ × Result ℕ Refusal)) → Valid t → Standing t b → AllByRecursion (Told t) (said (table_put (Some t) b) rs)
told_said t b [] v h = tt
told_said t b (r ∷ rs) v h =
    elim r.1 as (λ q. Told t (said_at r.0 (table_put (Some t) b) q) × AllByRecursion (Told t) (said (after_reading (table_put (Some t) b) q) rs)) [
      | Err q ↦ (tt, told_said t b rs v h)
      | Ok x ↦
          let row = x ∷ [] in
          let on = stands_on ((b []).refusal row) t b row h in
          let e = table_after (Some t) b row h.single.lawful in (
            subst (λ (m : Meaning). Told t (offered_at r.0 ((table_put (Some t) b []).refusal (x ∷ [])) (m []))) e (told_offered t (after b (x ∷ [])) r.0 ((b []).refusal (x ∷ [])) v on),
            subst (λ (m : Meaning). AllByRecursion (Told t) (said m rs)) e (told_said t (after b (x ∷ [])) rs v on),
          )
    ]

-- the table that is laid on a bank, or not
abbrev laid_by : Table → Meaning → Option Fault → Result Meaning Fault
laid_by t m o = result_map_both (λ _. table_put (Some t) m) (at_line (close_line (Some t))) (answer_of o)

abbrev after_laid : ℕ → List (ℕ × Result ℕ Refusal) → Result Meaning Fault → List Report
after_laid k rs r = elim r [ Err f ↦ Err f ∷ [] | Ok n ↦ seen_at k (n []) ∷ said n rs ]

told_laid : (o : Option Fault) (t : Table) (m : Meaning) (k : ℕ) (rs : List (ℕ × Result ℕ Refusal)) → sheet_fit (Some t) (m []) ≡ o → Valid t → Single m → AllByRecursion (Told t) (after_laid k rs (laid_by t m o))
told_laid (Some f) t m k rs e v h = (tt, tt)
told_laid None t m k rs e v h = let on : Standing t m = record { single = h; fit = e } in (told_seen t m k v on, told_said t m rs v on)

none_far : (held : List Axis) → AllByRecursion (λ a. a.position ≡ pos 0) held → AllNear held
none_far [] h i = (omega (arith, ints), omega (arith, ints))
none_far (a ∷ held) h zero = subst (Within 1099511627776) (sym h.0) (omega (arith, ints), omega (arith, ints))
none_far (a ∷ held) h (suc i) = none_far held h.1 i

bank_single : (x : ℕ) → Single (bank_means Encoder 1 8388607 (started Encoder (x ∷ [])))
bank_single x = record {
  axes = λ rs. refl;
  offset = λ rs. refl;
  lawful = bank_lawful Encoder 1 8388607 (started Encoder (x ∷ [])) (lit≤ tt) (none_far (started Encoder (x ∷ [])) (refl, tt));
}

-- the bank that a line sets up, or not
abbrev after_start : Table → ℕ → List (ℕ × Result ℕ Refusal) → Result Meaning Fault → List Report
after_start t k rs r = elim r [ Err f ↦ Err f ∷ start (Some t) rs | Ok m ↦ put_on (Some t) m k rs ]

told_started : (t : Table) (k : ℕ) (rs : List (ℕ × Result ℕ Refusal)) (r : Result ℕ Refusal) → Valid t → AllByRecursion (Told t) (start (Some t) rs) → AllByRecursion (Told t) (after_start t k rs (started_by k r))
told_started t k rs (Err q) v rest = (tt, rest)
told_started t k rs (Ok x) v rest =
    elim (set_up_refusal Encoder (x ∷ []) (pos 8388607)) as (λ o. AllByRecursion (Told t) (after_start t k rs (elim o [ None ↦ Ok (bank_means Encoder 1 8388607 (started Encoder (x ∷ []))) | Some f ↦ Err (at_line k f) ]))) [
      | None ↦ told_laid (sheet_fit (Some t) (bank_means Encoder 1 8388607 (started Encoder (x ∷ [])) [])) t (bank_means Encoder 1 8388607 (started Encoder (x ∷ []))) k rs refl v (bank_single x)
      | Some f ↦ (tt, rest)
    ]

-- every reading behind a table
told_start : (t : Table) (rs : List (ℕ × Result ℕ Refusal)) → Valid t → AllByRecursion (Told t) (start (Some t) rs)
told_start t [] v = tt
told_start t (r ∷ rs) v = told_started t r.0 rs r.1 v (told_start t rs v)

pub offsets_correct : OffsetsCorrect
offsets_correct s t e =
    let v = (law_only (take (table_length s) s) t e).0 in
    subst (λ (r : Result Table Fault). AllByRecursion (Told t) (after_table r (drop (table_length s) s))) (sym e) (told_start t (readings_from (close_line (Some t) + 1) (drop (table_length s) s)) v)
