use Rattle.std.proofs.Common.{◌≡◌, ℕ, ◌+◌, ◌<◌, [], ◌∷◌, ◌++◌, List, ℤ, Bor, Some, None, get_or, set, take, drop, length, sym, ap, ◌∙◌, arith, rules, w64, SFits, to_z, of_z}
use Rattle.std.specs.Prelude.{map}
use Rattle.std.specs.Option.{option_map}
use Rattle.std.proofs.lemmas.List.{get_or-map, take_more_set, length-map, length-set}
use Rattle.std.proofs.lemmas.Int.{to_z-of_z}
use Rattle.lines.specs.Fields.{read_field, read_fields}
use Rattle.table_text.proofs.FieldSteps.{before, fields_none, fields_more}
use Rattle.table_text.proofs.heading.fields.Goals as goal

pub returns-in_err-number : goal.returns-in_err-number
returns-in_err-number g c =
    let leads = c.args.leads.now in
    let ls : List (List ℕ) = map (λ x. x.now) leads in
    let i = c.loop-i.i in
    let p : List ℕ = (get_or leads i (record { ref_ptr = (0, 0); now = [] })).now in
    let in_range : i < length ls = omega (arith, length-map leads (λ x. x.now)) in
    let lead : get_or ls i [] ≡ p = get_or-map (λ x. x.now) leads i (record { ref_ptr = (0, 0); now = [] }) [] (omega arith) in
    let read : read_field p c.loop-i.rest.now ≡ None = sym c.field.ensures ∙ ap (option_map (λ (x : ℤ × Bor (List ℕ)). (x.0, x.1.now))) c.in_err-number.was in
    c.from_residual.ensures ∙ sym (fields_none ls c.args.line.now c.loop-i.rest.now p (take i c.loop-i.numbers) i in_range lead read c.loop-i.invariant.1)

pub loop-i-preserved : goal.loop-i-preserved
loop-i-preserved g c =
    let leads = c.args.leads.now in
    let ls : List (List ℕ) = map (λ x. x.now) leads in
    let i = c.loop-i.i in
    let n = c.in_ok-number.number in
    let p : List ℕ = (get_or leads i (record { ref_ptr = (0, 0); now = [] })).now in
    let in_range : i < length ls = omega (arith, length-map leads (λ x. x.now)) in
    let lead : get_or ls i [] ≡ p = get_or-map (λ x. x.now) leads i (record { ref_ptr = (0, 0); now = [] }) [] (omega arith) in
    let read : read_field p c.loop-i.rest.now ≡ Some (n, c.in_ok-number.after.now) = sym c.field.ensures ∙ ap (option_map (λ (x : ℤ × Bor (List ℕ)). (x.0, x.1.now))) c.in_ok-number.was in
    let fits : SFits w64 n = search rules in
    let more : take i c.loop-i.numbers ++ n ∷ [] ≡ take (i + 1) (set c.loop-i.numbers i (to_z w64 (of_z w64 n))) =
    ap (λ z. take i c.loop-i.numbers ++ z ∷ []) (sym (to_z-of_z w64 n fits)) ∙ sym (take_more_set c.loop-i.numbers i (to_z w64 (of_z w64 n)) (omega (arith, c.loop-i.invariant.0))) in (
      length-set c.loop-i.numbers i _ ∙ c.loop-i.invariant.0,
      fields_more ls c.args.line.now c.loop-i.rest.now p c.in_ok-number.after.now (take i c.loop-i.numbers) n i in_range lead read c.loop-i.invariant.1
          ∙ ap (λ ys. before ys (read_fields (drop (i + 1) ls) c.in_ok-number.after.now)) more,
    )
