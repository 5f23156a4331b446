-- A line's fields and its numbers determine each other.
use Rattle.std.proofs.Common.{◌≡◌, ℕ, ◌<◌, true, false, cond, eqb, List, [], ◌∷◌, ◌++◌, length, get_or, drop, ℤ, nat_abs, Some, None, Option, sym, refl, ap, ◌∙◌, subst, arith}
use Rattle.std.specs.Char.{is_ascii_digit}
use Rattle.std.specs.Fmt.{signed_decimal}
use Rattle.std.specs.List.{AllByRecursion}
use Rattle.std.proofs.lemmas.List.{drop_at}
use Rattle.std.proofs.lemmas.Bool.{eqb-true}
use Rattle.numerals.specs.Numbers.{read_number}
use Rattle.numerals.proofs.NumberLaws.{only_number, back_number}
use Rattle.lines.specs.Fields.{strip, read_first, read_field, read_fields}
use Rattle.lines.proofs.Heads.{strip_only, strip_back, number_then}

-- two different constructors are never equal
pub no : {P : Type 0} → ◌≡◌ {A = ℕ} 0 1 → P
no w = absurd (omega arith)

-- the numbers zs, each after its lead
abbrev pub written : List (List ℕ) → List ℤ → List ℕ
written [] zs = []
written (p ∷ ps) [] = p
written (p ∷ ps) (z ∷ zs) = p ++ (signed_decimal z ++ written ps zs)

abbrev pub Small : ℤ → Type 0
Small z = nat_abs z < 10000000000

pub field_only : (p s : List ℕ) (x : ℤ × List ℕ) → read_field p s ≡ Some x → Small x.0 → s ≡ p ++ (signed_decimal x.0 ++ x.1)
field_only p s x e h =
    elim (strip p s) as (λ o. strip p s ≡ o → ◌≡◌ {A = Option (ℤ × List ℕ)} (elim o [ None ↦ None | Some r ↦ number_then r (read_number r) ]) (Some x) → s ≡ p ++ (signed_decimal x.0 ++ x.1)) [
      | None ↦ (λ q f. no cc)
      | Some r ↦ (λ q.
          elim (read_number r) as (λ o. read_number r ≡ o → ◌≡◌ {A = Option (ℤ × List ℕ)} (number_then r o) (Some x) → s ≡ p ++ (signed_decimal x.0 ++ x.1)) [
            | None ↦ (λ g f. no cc)
            | Some n ↦ (λ g f.
                let v : n.0 ≡ x.0 = ap (λ o. elim o [ None ↦ n.0 | Some y ↦ y.0 ]) f in
                let w : drop n.1 r ≡ x.1 = ap (λ o. elim o [ None ↦ drop n.1 r | Some y ↦ y.1 ]) f in
                strip_only p s r q ∙ ap (λ t. p ++ t) (only_number r n.0 n.1 g (subst Small (sym v) h) ∙ ap (λ z. signed_decimal z ++ drop n.1 r) v ∙ ap (λ t. signed_decimal x.0 ++ t) w))
          ] refl)
    ] refl e

pub none_left : (s : List ℕ) → eqb (length s) 0 ≡ true → s ≡ []
none_left [] h = refl
none_left (c ∷ cs) h = absurd (omega (arith, eqb-true (length (c ∷ cs)) 0 h))

pub fields_length : (ps : List (List ℕ)) (s : List ℕ) (zs : List ℤ) → read_fields ps s ≡ Some zs → length zs ≡ length ps
fields_length [] s zs e =
    elim (eqb (length s) 0) as (λ b. ◌≡◌ {A = Option (List ℤ)} (cond b (Some []) None) (Some zs) → length zs ≡ 0)
    [ true ↦ (λ f. ap (λ o. elim o [ None ↦ 0 | Some y ↦ length y ]) (sym f)) | false ↦ (λ f. no cc) ] e
fields_length (p ∷ ps) s zs e =
    elim (read_field p s) as (λ o. ◌≡◌ {A = Option (List ℤ)} (elim o [ None ↦ None | Some x ↦ elim (read_fields ps x.1) [ None ↦ None | Some ys ↦ Some (x.0 ∷ ys) ] ]) (Some zs) → length zs ≡ length (p ∷ ps)) [
      | None ↦ (λ f. no cc)
      | Some x ↦ elim (read_fields ps x.1) as (λ o. read_fields ps x.1 ≡ o → ◌≡◌ {A = Option (List ℤ)} (elim o [ None ↦ None | Some ys ↦ Some (x.0 ∷ ys) ]) (Some zs) → length zs ≡ length (p ∷ ps)) [
        | None ↦ (λ q f. no cc)
        | Some ys ↦ (λ q f. let l = fields_length ps x.1 ys q in ap (λ o. elim o [ None ↦ 0 | Some y ↦ length y ]) (sym f) ∙ omega arith)
      ] refl
    ] e

pub fields_only : (ps : List (List ℕ)) (s : List ℕ) (zs : List ℤ) → read_fields ps s ≡ Some zs → AllByRecursion Small zs → s ≡ written ps zs
fields_only [] s zs e h =
    elim (eqb (length s) 0) as (λ b. eqb (length s) 0 ≡ b → ◌≡◌ {A = Option (List ℤ)} (cond b (Some []) None) (Some zs) → s ≡ [])
    [ true ↦ (λ q f. none_left s q) | false ↦ (λ q f. no cc) ] refl e
fields_only (p ∷ ps) s zs e h =
    elim (read_field p s) as (λ o. read_field p s ≡ o → ◌≡◌ {A = Option (List ℤ)} (elim o [ None ↦ None | Some x ↦ elim (read_fields ps x.1) [ None ↦ None | Some ys ↦ Some (x.0 ∷ ys) ] ]) (Some zs) → s ≡ written (p ∷ ps) zs) [
      | None ↦ (λ g f. no cc)
      | Some x ↦ (λ g. elim (read_fields ps x.1) as (λ o. read_fields ps x.1 ≡ o → ◌≡◌ {A = Option (List ℤ)} (elim o [ None ↦ None | Some ys ↦ Some (x.0 ∷ ys) ]) (Some zs) → s ≡ written (p ∷ ps) zs) [
        | None ↦ (λ q f. no cc)
        | Some ys ↦ (λ q f.
            let v : x.0 ∷ ys ≡ zs = ap (λ o. elim o [ None ↦ x.0 ∷ ys | Some y ↦ y ]) f in
            let k : AllByRecursion Small (x.0 ∷ ys) = subst (AllByRecursion Small) (sym v) h in
            field_only p s x g k.0 ∙ ap (λ t. p ++ (signed_decimal x.0 ++ t)) (fields_only ps x.1 ys q k.1) ∙ ap (written (p ∷ ps)) v)
      ] refl)
    ] refl e

-- a lead that no number runs into
abbrev pub Apart : List ℕ → Type 0
Apart [] = ⊥
Apart (c ∷ cs) = is_ascii_digit c ≡ false

pub starts : (ps : List (List ℕ)) (zs : List ℤ) → AllByRecursion Apart ps → is_ascii_digit (get_or (written ps zs) 0 0) ≡ false
starts [] zs a = refl
starts ([] ∷ ps) zs a = absurd a.0
starts ((c ∷ cs) ∷ ps) [] a = a.0
starts ((c ∷ cs) ∷ ps) (z ∷ zs) a = a.0

abbrev pub first_after : Option (List ℕ) → Option (ℤ × List ℕ)
first_after o = elim o [ None ↦ None | Some r ↦ read_first r ]

pub field_back : (p rest : List ℕ) (z : ℤ) → Small z → is_ascii_digit (get_or rest 0 0) ≡ false → read_field p (p ++ (signed_decimal z ++ rest)) ≡ Some (z, rest)
field_back p rest z h a =
    let mk : List ℕ → Option (ℤ × List ℕ) = λ t. Some (z, t) in
    ap first_after (strip_back p (signed_decimal z ++ rest)) ∙ ap (number_then (signed_decimal z ++ rest)) (back_number z rest h a) ∙ ap mk (drop_at (signed_decimal z) rest (length (signed_decimal z)) refl)

abbrev pub after_field : List (List ℕ) → Option (ℤ × List ℕ) → Option (List ℤ)
after_field ps o = elim o [ None ↦ None | Some x ↦ elim (read_fields ps x.1) [ None ↦ None | Some ys ↦ Some (x.0 ∷ ys) ] ]

pub fields_back : (ps : List (List ℕ)) (zs : List ℤ) → AllByRecursion Apart ps → AllByRecursion Small zs → length zs ≡ length ps → read_fields ps (written ps zs) ≡ Some zs
fields_back [] [] a h l = refl
fields_back [] (z ∷ zs) a h l = absurd (omega arith)
fields_back (p ∷ ps) [] a h l = absurd (omega arith)
fields_back (p ∷ ps) (z ∷ zs) a h l =
    ap (after_field ps) (field_back p (written ps zs) z h.0 (starts ps zs a.1))
    ∙ ap (λ o. elim o [ None ↦ None | Some ys ↦ Some (z ∷ ys) ]) (fields_back ps zs a.1 h.1 (omega arith))
