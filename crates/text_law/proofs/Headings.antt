-- A heading line and its heading determine each other.
use Rattle.std.proofs.Common.{◌≡◌, ℕ, ◌<◌, ◌≤◌, true, false, cond, ◌&&◌, leb, List, [], ◌∷◌, ◌++◌, length, ℤ, pos, negsuc, nat_abs, Some, None, Ok, Err, codes, decimal, Option, Result, sym, refl, ap, ◌∙◌, subst, append-nil, arith}
use Rattle.std.specs.Result.{result_map_both}
use Rattle.std.specs.List.{AllByRecursion}
use Rattle.std.proofs.lemmas.Bool.{and_parts, and_from, leb-true}
use Rattle.faults.specs.declared.fault.Fault.{Fault}
use Rattle.faults.specs.declared.fault.Refusal.TheVariants.{WrongForm, OutOfRange}
use Rattle.faults.specs.Faults.{text_fault}
use Rattle.lines.specs.Fields.{read_fields}
use Rattle.headings.specs.Heads.{Head, screw, plane, sheet_fault, within, screw_fits, plane_fits, screw_heading, plane_heading}
use Rattle.sheets.specs.Tables.{head_fits}
use Rattle.table_text.specs.HeadingTexts.{screw_leads, plane_leads, at, in_text, read_heading}
use Rattle.table_writing.specs.TableTexts.{heading_line}
use Rattle.text_law.proofs.Fields.{no, Small, written, fields_length, fields_only, field_back, fields_back, after_field}

pub within_is : (high : ℕ) (z : ℤ) → within high z ≡ true → (z ≡ pos (nat_abs z)) × (nat_abs z ≤ high) × (within high (pos (nat_abs z)) ≡ true)
within_is high (pos n) h = (refl, leb-true n high (and_parts (leb 1 n) (leb n high) h).1, h)
within_is high (negsuc n) h = no cc

pub below : (high n : ℕ) → within high (pos n) ≡ true → n ≤ high
below high n h = leb-true n high (and_parts (leb 1 n) (leb n high) h).1

pub four : (zs : List ℤ) → length zs ≡ 4 → zs ≡ at zs 0 ∷ at zs 1 ∷ at zs 2 ∷ at zs 3 ∷ []
four [] h = absurd (omega arith)
four (a ∷ []) h = absurd (omega arith)
four (a ∷ b ∷ []) h = absurd (omega arith)
four (a ∷ b ∷ c ∷ []) h = absurd (omega arith)
four (a ∷ b ∷ c ∷ d ∷ []) h = refl
four (a ∷ b ∷ c ∷ d ∷ y ∷ ys) h = absurd (omega arith)

pub screw_only : (s : List ℕ) (z : List ℤ) (h : Head) → read_fields screw_leads s ≡ Some z → result_map_both (λ h. h) (in_text 1) (screw_heading (at z 0) (at z 1) (at z 2) (at z 3)) ≡ Ok h → (head_fits h ≡ true) × (s ≡ heading_line h)
unfolding heading_line
screw_only s z h e =
    elim (screw_fits (at z 0) (at z 1) (at z 2) (at z 3)) as (λ b. screw_fits (at z 0) (at z 1) (at z 2) (at z 3) ≡ b → ◌≡◌ {A = Result Head Fault} (result_map_both {E = Fault} (λ h. h) (in_text 1) (cond b (Ok (screw (nat_abs (at z 0)) (nat_abs (at z 1)) (nat_abs (at z 2)) (nat_abs (at z 3)))) (Err (sheet_fault OutOfRange)))) (Ok h) → (head_fits h ≡ true) × (s ≡ heading_line h)) [
      | true ↦ (λ q f.
          let l : length z ≡ 4 = fields_length screw_leads s z e in
          let p0 = and_parts (within 256 (at z 0)) (within 8 (at z 1) && (within 8 (at z 2) && within 16777216 (at z 3))) (q) in
          let p1 = and_parts (within 8 (at z 1)) (within 8 (at z 2) && within 16777216 (at z 3)) p0.1 in
          let p2 = and_parts (within 8 (at z 2)) (within 16777216 (at z 3)) p1.1 in
          let w0 = within_is 256 (at z 0) p0.0 in
          let w1 = within_is 8 (at z 1) p1.0 in
          let w2 = within_is 8 (at z 2) p2.0 in
          let w3 = within_is 16777216 (at z 3) p2.1 in
          let v : z ≡ pos (nat_abs (at z 0)) ∷ pos (nat_abs (at z 1)) ∷ pos (nat_abs (at z 2)) ∷ pos (nat_abs (at z 3)) ∷ [] = four z l ∙ ap (λ x. x ∷ at z 1 ∷ at z 2 ∷ at z 3 ∷ []) w0.0 ∙ ap (λ x. pos (nat_abs (at z 0)) ∷ x ∷ at z 2 ∷ at z 3 ∷ []) w1.0 ∙ ap (λ x. pos (nat_abs (at z 0)) ∷ pos (nat_abs (at z 1)) ∷ x ∷ at z 3 ∷ []) w2.0 ∙ ap (λ x. pos (nat_abs (at z 0)) ∷ pos (nat_abs (at z 1)) ∷ pos (nat_abs (at z 2)) ∷ x ∷ []) w3.0 in
          let g : screw (nat_abs (at z 0)) (nat_abs (at z 1)) (nat_abs (at z 2)) (nat_abs (at z 3)) ≡ h = ap (λ r. elim r [ Ok y ↦ y | Err y ↦ h ]) f in
          let k : head_fits (screw (nat_abs (at z 0)) (nat_abs (at z 1)) (nat_abs (at z 2)) (nat_abs (at z 3))) ≡ true = and_from _ _ w0.2 (and_from _ _ w1.2 (and_from _ _ w2.2 w3.2)) in
          let sm : AllByRecursion Small (pos (nat_abs (at z 0)) ∷ pos (nat_abs (at z 1)) ∷ pos (nat_abs (at z 2)) ∷ pos (nat_abs (at z 3)) ∷ []) = (omega (arith, w0.1), (omega (arith, w1.1), (omega (arith, w2.1), (omega (arith, w3.1), tt)))) in
          let t : s ≡ heading_line (screw (nat_abs (at z 0)) (nat_abs (at z 1)) (nat_abs (at z 2)) (nat_abs (at z 3))) = fields_only screw_leads s z e (subst (AllByRecursion Small) (sym v) sm) ∙ ap (written screw_leads) v ∙ ap (λ t. (codes "DEFINE COMP " ++ (decimal (nat_abs (at z 0)) ++ (codes ",#" ++ (decimal (nat_abs (at z 1)) ++ (codes ",#" ++ (decimal (nat_abs (at z 2)) ++ (codes "," ++ t)))))))) (append-nil (decimal (nat_abs (at z 3)))) in
          (ap head_fits (sym g) ∙ k, t ∙ ap heading_line g))
      | false ↦ (λ q f. no cc)
    ] refl

pub screw_small : (n s t c : ℕ) → head_fits (screw n s t c) ≡ true → AllByRecursion Small (pos n ∷ pos s ∷ pos t ∷ pos c ∷ [])
screw_small n s t c q =
    let p0 = and_parts (within 256 (pos n)) (within 8 (pos s) && (within 8 (pos t) && within 16777216 (pos c))) (q) in
    let p1 = and_parts (within 8 (pos s)) (within 8 (pos t) && within 16777216 (pos c)) p0.1 in
    let p2 = and_parts (within 8 (pos t)) (within 16777216 (pos c)) p1.1 in
    (omega (arith, below 256 n p0.0), (omega (arith, below 8 s p1.0), (omega (arith, below 8 t p2.0), (omega (arith, below 16777216 c p2.1), tt))))

pub screw_back : (n s t c : ℕ) → head_fits (screw n s t c) ≡ true → read_fields screw_leads (heading_line (screw n s t c)) ≡ Some (pos n ∷ pos s ∷ pos t ∷ pos c ∷ [])
unfolding heading_line
screw_back n s t c q =
    ap (λ tail. read_fields screw_leads (codes "DEFINE COMP " ++ (decimal n ++ (codes ",#" ++ (decimal s ++ (codes ",#" ++ (decimal t ++ (codes "," ++ tail)))))))) (sym (append-nil (decimal c)))
    ∙ fields_back screw_leads (pos n ∷ pos s ∷ pos t ∷ pos c ∷ []) (refl, (refl, (refl, (refl, tt)))) (screw_small n s t c q) refl

pub seven : (zs : List ℤ) → length zs ≡ 7 → zs ≡ at zs 0 ∷ at zs 1 ∷ at zs 2 ∷ at zs 3 ∷ at zs 4 ∷ at zs 5 ∷ at zs 6 ∷ []
seven [] h = absurd (omega arith)
seven (a ∷ []) h = absurd (omega arith)
seven (a ∷ b ∷ []) h = absurd (omega arith)
seven (a ∷ b ∷ c ∷ []) h = absurd (omega arith)
seven (a ∷ b ∷ c ∷ d ∷ []) h = absurd (omega arith)
seven (a ∷ b ∷ c ∷ d ∷ e ∷ []) h = absurd (omega arith)
seven (a ∷ b ∷ c ∷ d ∷ e ∷ f ∷ []) h = absurd (omega arith)
seven (a ∷ b ∷ c ∷ d ∷ e ∷ f ∷ g ∷ []) h = refl
seven (a ∷ b ∷ c ∷ d ∷ e ∷ f ∷ g ∷ y ∷ ys) h = absurd (omega arith)

pub plane_only : (s : List ℕ) (z : List ℤ) (h : Head) → read_fields plane_leads s ≡ Some z → result_map_both (λ h. h) (in_text 1) (plane_heading (at z 0) (at z 1) (at z 2) (at z 3) (at z 4) (at z 5) (at z 6)) ≡ Ok h → (head_fits h ≡ true) × (s ≡ heading_line h)
unfolding heading_line
plane_only s z h e =
    elim (plane_fits (at z 0) (at z 1) (at z 2) (at z 3) (at z 4) (at z 5) (at z 6)) as (λ b. plane_fits (at z 0) (at z 1) (at z 2) (at z 3) (at z 4) (at z 5) (at z 6) ≡ b → ◌≡◌ {A = Result Head Fault} (result_map_both {E = Fault} (λ h. h) (in_text 1) (cond b (Ok (plane (nat_abs (at z 0)) (nat_abs (at z 1)) (nat_abs (at z 2)) (nat_abs (at z 3)) (nat_abs (at z 4)) (nat_abs (at z 5)) (nat_abs (at z 6)))) (Err (sheet_fault OutOfRange)))) (Ok h) → (head_fits h ≡ true) × (s ≡ heading_line h)) [
      | true ↦ (λ q f.
          let l : length z ≡ 7 = fields_length plane_leads s z e in
          let p0 = and_parts (within 16 (at z 0)) (within 16 (at z 1) && (within 8 (at z 2) && (within 8 (at z 3) && (within 8 (at z 4) && (within 262144 (at z 5) && within 262144 (at z 6)))))) (q) in
          let p1 = and_parts (within 16 (at z 1)) (within 8 (at z 2) && (within 8 (at z 3) && (within 8 (at z 4) && (within 262144 (at z 5) && within 262144 (at z 6))))) p0.1 in
          let p2 = and_parts (within 8 (at z 2)) (within 8 (at z 3) && (within 8 (at z 4) && (within 262144 (at z 5) && within 262144 (at z 6)))) p1.1 in
          let p3 = and_parts (within 8 (at z 3)) (within 8 (at z 4) && (within 262144 (at z 5) && within 262144 (at z 6))) p2.1 in
          let p4 = and_parts (within 8 (at z 4)) (within 262144 (at z 5) && within 262144 (at z 6)) p3.1 in
          let p5 = and_parts (within 262144 (at z 5)) (within 262144 (at z 6)) p4.1 in
          let w0 = within_is 16 (at z 0) p0.0 in
          let w1 = within_is 16 (at z 1) p1.0 in
          let w2 = within_is 8 (at z 2) p2.0 in
          let w3 = within_is 8 (at z 3) p3.0 in
          let w4 = within_is 8 (at z 4) p4.0 in
          let w5 = within_is 262144 (at z 5) p5.0 in
          let w6 = within_is 262144 (at z 6) p5.1 in
          let v : z ≡ pos (nat_abs (at z 0)) ∷ pos (nat_abs (at z 1)) ∷ pos (nat_abs (at z 2)) ∷ pos (nat_abs (at z 3)) ∷ pos (nat_abs (at z 4)) ∷ pos (nat_abs (at z 5)) ∷ pos (nat_abs (at z 6)) ∷ [] = seven z l ∙ ap (λ x. x ∷ at z 1 ∷ at z 2 ∷ at z 3 ∷ at z 4 ∷ at z 5 ∷ at z 6 ∷ []) w0.0 ∙ ap (λ x. pos (nat_abs (at z 0)) ∷ x ∷ at z 2 ∷ at z 3 ∷ at z 4 ∷ at z 5 ∷ at z 6 ∷ []) w1.0 ∙ ap (λ x. pos (nat_abs (at z 0)) ∷ pos (nat_abs (at z 1)) ∷ x ∷ at z 3 ∷ at z 4 ∷ at z 5 ∷ at z 6 ∷ []) w2.0 ∙ ap (λ x. pos (nat_abs (at z 0)) ∷ pos (nat_abs (at z 1)) ∷ pos (nat_abs (at z 2)) ∷ x ∷ at z 4 ∷ at z 5 ∷ at z 6 ∷ []) w3.0 ∙ ap (λ x. pos (nat_abs (at z 0)) ∷ pos (nat_abs (at z 1)) ∷ pos (nat_abs (at z 2)) ∷ pos (nat_abs (at z 3)) ∷ x ∷ at z 5 ∷ at z 6 ∷ []) w4.0 ∙ ap (λ x. pos (nat_abs (at z 0)) ∷ pos (nat_abs (at z 1)) ∷ pos (nat_abs (at z 2)) ∷ pos (nat_abs (at z 3)) ∷ pos (nat_abs (at z 4)) ∷ x ∷ at z 6 ∷ []) w5.0 ∙ ap (λ x. pos (nat_abs (at z 0)) ∷ pos (nat_abs (at z 1)) ∷ pos (nat_abs (at z 2)) ∷ pos (nat_abs (at z 3)) ∷ pos (nat_abs (at z 4)) ∷ pos (nat_abs (at z 5)) ∷ x ∷ []) w6.0 in
          let g : plane (nat_abs (at z 0)) (nat_abs (at z 1)) (nat_abs (at z 2)) (nat_abs (at z 3)) (nat_abs (at z 4)) (nat_abs (at z 5)) (nat_abs (at z 6)) ≡ h = ap (λ r. elim r [ Ok y ↦ y | Err y ↦ h ]) f in
          let k : head_fits (plane (nat_abs (at z 0)) (nat_abs (at z 1)) (nat_abs (at z 2)) (nat_abs (at z 3)) (nat_abs (at z 4)) (nat_abs (at z 5)) (nat_abs (at z 6))) ≡ true = and_from _ _ w0.2 (and_from _ _ w1.2 (and_from _ _ w2.2 (and_from _ _ w3.2 (and_from _ _ w4.2 (and_from _ _ w5.2 w6.2))))) in
          let sm : AllByRecursion Small (pos (nat_abs (at z 0)) ∷ pos (nat_abs (at z 1)) ∷ pos (nat_abs (at z 2)) ∷ pos (nat_abs (at z 3)) ∷ pos (nat_abs (at z 4)) ∷ pos (nat_abs (at z 5)) ∷ pos (nat_abs (at z 6)) ∷ []) = (omega (arith, w0.1), (omega (arith, w1.1), (omega (arith, w2.1), (omega (arith, w3.1), (omega (arith, w4.1), (omega (arith, w5.1), (omega (arith, w6.1), tt))))))) in
          let t : s ≡ heading_line (plane (nat_abs (at z 0)) (nat_abs (at z 1)) (nat_abs (at z 2)) (nat_abs (at z 3)) (nat_abs (at z 4)) (nat_abs (at z 5)) (nat_abs (at z 6))) = fields_only plane_leads s z e (subst (AllByRecursion Small) (sym v) sm) ∙ ap (written plane_leads) v ∙ ap (λ t. (codes "DEFINE COMP " ++ (decimal (nat_abs (at z 0)) ++ (codes "." ++ (decimal (nat_abs (at z 1)) ++ (codes ",#" ++ (decimal (nat_abs (at z 2)) ++ (codes ",#" ++ (decimal (nat_abs (at z 3)) ++ (codes ",#" ++ (decimal (nat_abs (at z 4)) ++ (codes "," ++ (decimal (nat_abs (at z 5)) ++ (codes "," ++ t)))))))))))))) (append-nil (decimal (nat_abs (at z 6)))) in
          (ap head_fits (sym g) ∙ k, t ∙ ap heading_line g))
      | false ↦ (λ q f. no cc)
    ] refl

pub plane_small : (r c s u t a b : ℕ) → head_fits (plane r c s u t a b) ≡ true → AllByRecursion Small (pos r ∷ pos c ∷ pos s ∷ pos u ∷ pos t ∷ pos a ∷ pos b ∷ [])
plane_small r c s u t a b q =
    let p0 = and_parts (within 16 (pos r)) (within 16 (pos c) && (within 8 (pos s) && (within 8 (pos u) && (within 8 (pos t) && (within 262144 (pos a) && within 262144 (pos b)))))) (q) in
    let p1 = and_parts (within 16 (pos c)) (within 8 (pos s) && (within 8 (pos u) && (within 8 (pos t) && (within 262144 (pos a) && within 262144 (pos b))))) p0.1 in
    let p2 = and_parts (within 8 (pos s)) (within 8 (pos u) && (within 8 (pos t) && (within 262144 (pos a) && within 262144 (pos b)))) p1.1 in
    let p3 = and_parts (within 8 (pos u)) (within 8 (pos t) && (within 262144 (pos a) && within 262144 (pos b))) p2.1 in
    let p4 = and_parts (within 8 (pos t)) (within 262144 (pos a) && within 262144 (pos b)) p3.1 in
    let p5 = and_parts (within 262144 (pos a)) (within 262144 (pos b)) p4.1 in
    (omega (arith, below 16 r p0.0), (omega (arith, below 16 c p1.0), (omega (arith, below 8 s p2.0), (omega (arith, below 8 u p3.0), (omega (arith, below 8 t p4.0), (omega (arith, below 262144 a p5.0), (omega (arith, below 262144 b p5.1), tt)))))))

pub plane_back : (r c s u t a b : ℕ) → head_fits (plane r c s u t a b) ≡ true → read_fields plane_leads (heading_line (plane r c s u t a b)) ≡ Some (pos r ∷ pos c ∷ pos s ∷ pos u ∷ pos t ∷ pos a ∷ pos b ∷ [])
unfolding heading_line
plane_back r c s u t a b q =
    ap (λ tail. read_fields plane_leads (codes "DEFINE COMP " ++ (decimal r ++ (codes "." ++ (decimal c ++ (codes ",#" ++ (decimal s ++ (codes ",#" ++ (decimal u ++ (codes ",#" ++ (decimal t ++ (codes "," ++ (decimal a ++ (codes "," ++ tail)))))))))))))) (sym (append-nil (decimal b)))
    ∙ fields_back plane_leads (pos r ∷ pos c ∷ pos s ∷ pos u ∷ pos t ∷ pos a ∷ pos b ∷ []) (refl, (refl, (refl, (refl, (refl, (refl, (refl, tt))))))) (plane_small r c s u t a b q) refl

abbrev pub as_plane : Option (List ℤ) → Result Head Fault
as_plane o =
    elim o [ Some z ↦ result_map_both (λ h. h) (in_text 1) (plane_heading (at z 0) (at z 1) (at z 2) (at z 3) (at z 4) (at z 5) (at z 6)) | None ↦ Err (text_fault WrongForm 1) ]

abbrev pub as_screw : Option (List ℤ) → Option (List ℤ) → Result Head Fault
as_screw o p = elim o [ Some z ↦ result_map_both (λ h. h) (in_text 1) (screw_heading (at z 0) (at z 1) (at z 2) (at z 3)) | None ↦ as_plane p ]

pub heading_only : (s : List ℕ) (h : Head) → read_heading s ≡ Ok h → (head_fits h ≡ true) × (s ≡ heading_line h)
heading_only s h e =
    elim (read_fields screw_leads s) as (λ o. read_fields screw_leads s ≡ o → as_screw o (read_fields plane_leads s) ≡ Ok h → (head_fits h ≡ true) × (s ≡ heading_line h)) [
      | Some z ↦ (λ q f. screw_only s z h q f)
      | None ↦ (λ q. elim (read_fields plane_leads s) as (λ o. read_fields plane_leads s ≡ o → as_plane o ≡ Ok h → (head_fits h ≡ true) × (s ≡ heading_line h))
          [ Some z ↦ (λ g f. plane_only s z h g f) | None ↦ (λ g f. no cc) ] refl)
    ] refl e

-- after its first number a plane's heading has a point, and is not a screw's
pub not_screw : (r : ℕ) (rest : List ℕ) → r < 10000000000 → read_fields screw_leads (codes "DEFINE COMP " ++ (decimal r ++ (codes "." ++ rest))) ≡ None
not_screw r rest h = ap (after_field (codes ",#" ∷ codes ",#" ∷ codes "," ∷ [])) (field_back (codes "DEFINE COMP ") (codes "." ++ rest) (pos r) h refl)

pub heading_back : (h : Head) → head_fits h ≡ true → read_heading (heading_line h) ≡ Ok h
unfolding heading_line
heading_back (screw n s t c) q =
    ap (λ o. as_screw o (read_fields plane_leads (heading_line (screw n s t c)))) (screw_back n s t c q)
    ∙ ap (λ b. result_map_both {E = Fault} (λ h. h) (in_text 1) (cond b (Ok (screw n s t c)) (Err (sheet_fault OutOfRange)))) q
heading_back (plane r c s u t a b) q =
    ap (λ o. as_screw o (read_fields plane_leads (heading_line (plane r c s u t a b))))
    (not_screw r (decimal c ++ (codes ",#" ++ (decimal s ++ (codes ",#" ++ (decimal u ++ (codes ",#" ++ (decimal t ++ (codes "," ++ (decimal a ++ (codes "," ++ decimal b)))))))))) (plane_small r c s u t a b q).0)
    ∙ ap as_plane (plane_back r c s u t a b q)
    ∙ ap (λ o. result_map_both {E = Fault} (λ h. h) (in_text 1) (cond o (Ok (plane r c s u t a b)) (Err (sheet_fault OutOfRange)))) q
