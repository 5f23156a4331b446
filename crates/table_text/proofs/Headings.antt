-- A heading line, by what its leads and numbers are.
use Rattle.std.proofs.Common.{◌≡◌, ℕ, List, ℤ, Some, None, Err, Option, Result, sym, ap, ◌∙◌, arith}
use Rattle.std.specs.Option.{option_map}
use Rattle.faults.specs.declared.fault.Fault.{Fault}
use Rattle.faults.specs.declared.fault.Refusal.TheVariants.{WrongForm}
use Rattle.faults.specs.Faults.{text_fault}
use Rattle.headings.specs.declared.numbers.ScrewNumbers.{ScrewNumbers}
use Rattle.headings.specs.declared.numbers.PlaneNumbers.{PlaneNumbers}
use Rattle.headings.specs.Heads.{Head}
use Rattle.lines.specs.Fields.{read_fields}
use Rattle.table_text.specs.HeadingTexts.{screw_leads, plane_leads, screw_numbers, plane_numbers, screw_read, plane_read, read_heading}

abbrev pub as_plane : Option (List ℤ) → Result Head Fault
as_plane o = elim o [ Some z ↦ plane_read (plane_numbers z) | None ↦ Err (text_fault WrongForm 1) ]

abbrev pub as_screw : Option (List ℤ) → Option (List ℤ) → Result Head Fault
as_screw o p = elim o [ Some z ↦ screw_read (screw_numbers z) | None ↦ as_plane p ]

-- the numbers of a line are those of its fields
some_of : {A B : Type 0} (f : A → B) (o : Option A) (b : B) → Some b ≡ option_map f o → (a : A) × (o ≡ Some a) × (b ≡ f a)
some_of f None b e = let w : ◌≡◌ {A = ℕ} 0 1 = cc in absurd (omega arith)
some_of f (Some a) b e = (a, cc, cc)

none_of : {A B : Type 0} (f : A → B) (o : Option A) → None ≡ option_map f o → o ≡ None
none_of f None e = cc
none_of f (Some a) e = let w : ◌≡◌ {A = ℕ} 0 1 = cc in absurd (omega arith)

pub heading_screw : (s : List ℕ) (n : ScrewNumbers) (r : Result Head Fault) → Some n ≡ option_map screw_numbers (read_fields screw_leads s) → r ≡ screw_read n → r ≡ read_heading s
heading_screw s n r e f =
    let p = some_of screw_numbers (read_fields screw_leads s) n e in
    f ∙ ap screw_read p.2 ∙ ap (λ o. as_screw o (read_fields plane_leads s)) (sym p.1)

pub heading_plane : (s : List ℕ) (n : PlaneNumbers) (r : Result Head Fault) → None ≡ option_map screw_numbers (read_fields screw_leads s) → Some n ≡ option_map plane_numbers (read_fields plane_leads s) → r ≡ plane_read n → r ≡ read_heading s
heading_plane s n r q e f =
    let p = some_of plane_numbers (read_fields plane_leads s) n e in
    f ∙ ap plane_read p.2 ∙ ap as_plane (sym p.1) ∙ ap (λ o. as_screw o (read_fields plane_leads s)) (sym (none_of screw_numbers (read_fields screw_leads s) q))

pub heading_none : (s : List ℕ) (r : Result Head Fault) → None ≡ option_map screw_numbers (read_fields screw_leads s) → None ≡ option_map plane_numbers (read_fields plane_leads s) → r ≡ Err (text_fault WrongForm 1) → r ≡ read_heading s
heading_none s r q e f =
    f ∙ ap as_plane (sym (none_of plane_numbers (read_fields plane_leads s) e)) ∙ ap (λ o. as_screw o (read_fields plane_leads s)) (sym (none_of screw_numbers (read_fields screw_leads s) q))
