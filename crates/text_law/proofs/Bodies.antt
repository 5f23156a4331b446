-- The lines after the heading and the entries determine each other.
use Rattle.std.proofs.Common.{◌≡◌, ℕ, ◌+◌, ◌≤◌, true, false, cond, eqb, leb, List, [], ◌∷◌, ◌++◌, map, length, ℤ, pos, nat_abs, Some, None, Ok, Err, codes, decimal, Option, Result, sym, refl, ap, ◌∙◌, subst, append_assoc, append-nil, arith}
use Rattle.std.specs.Fmt.{signed_decimal}
use Rattle.std.specs.List.{AllByRecursion}
use Rattle.std.proofs.lemmas.List.{map_push, length-append}
use Rattle.std.proofs.ByRecursion.{All-append}
use Rattle.std.proofs.lemmas.Bool.{eqb-true, eq-eqb, leb-true, le-leb, lt-leb}
use Rattle.numerals.specs.Numbers.{read_whole}
use Rattle.numerals.proofs.NumberLaws.{only_whole, back_whole}
use Rattle.lines.specs.Lines.{CLOSE, same}
use Rattle.lines.proofs.Cuts.{Flat, same_is, flat_signed}
use Rattle.faults.specs.declared.fault.Fault.{Fault}
use Rattle.faults.specs.declared.fault.Refusal.{Refusal}
use Rattle.faults.specs.declared.fault.Refusal.TheVariants.{WrongForm, OutOfRange, TooManyEntries, Incomplete}
use Rattle.faults.specs.Faults.{text_fault}
use Rattle.headings.specs.Heads.{Head, screw, plane, capacity}
use Rattle.sheets.specs.Tables.{Table, push, entry_refusal, close_refusal, head_fits}
use Rattle.table_text.specs.HeadingTexts.{screw_leads, plane_leads}
use Rattle.table_text.specs.TableTexts.{ended, read_body}
use Rattle.table_writing.specs.TableTexts.{heading_line}
use Rattle.text_law.proofs.Fields.{no, Small, written}
use Rattle.text_law.proofs.Headings.{screw_small, plane_small}

abbrev pub Narrow : ℤ → Type 0
Narrow z = nat_abs z ≤ 32767

pub ended_ok : (t u : Table) (k : ℕ) (ls : List (List ℕ)) (left : List ℕ) → ended t k ls left ≡ Ok u → (ls ≡ []) × (left ≡ []) × (t ≡ u)
ended_ok t u k [] [] h = (refl, refl, cc)
ended_ok t u k [] (c ∷ cs) h = no cc
ended_ok t u k (l ∷ ls) left h = no cc

pub entry_ok : (t : Table) (z : ℤ) → entry_refusal t z ≡ None → Narrow z
entry_ok t z =
    elim (leb (capacity t.head) (length t.entries)) as (λ b. ◌≡◌ {A = Option Refusal} (cond b (Some TooManyEntries) (cond (leb (nat_abs z) 32767) None (Some OutOfRange))) None → Narrow z) [
      | true ↦ (λ h. no cc)
      | false ↦ elim (leb (nat_abs z) 32767) as (λ b. leb (nat_abs z) 32767 ≡ b → ◌≡◌ {A = Option Refusal} (cond b None (Some OutOfRange)) None → Narrow z)
          [ true ↦ (λ q h. leb-true _ _ q) | false ↦ (λ q h. no cc) ] refl
    ]

pub close_ok : (t : Table) → close_refusal t ≡ None → length t.entries ≡ capacity t.head
close_ok t =
    elim (eqb (length t.entries) (capacity t.head)) as (λ b. eqb (length t.entries) (capacity t.head) ≡ b → ◌≡◌ {A = Option Refusal} (cond b None (Some Incomplete)) None → length t.entries ≡ capacity t.head)
    [ true ↦ (λ q h. eqb-true _ _ q) | false ↦ (λ q h. no cc) ] refl

-- what a body that is read says of the table, and of the lines
pub record Read (t u : Table) (ls : List (List ℕ)) (left : List ℕ) : Type 0 where
  pub same_head : u.head ≡ t.head
  pub same_lines : map signed_decimal t.entries ++ ls ≡ map signed_decimal u.entries ++ CLOSE ∷ []
  pub nothing : left ≡ []
  pub full : length u.entries ≡ capacity u.head
  pub narrow : AllByRecursion Narrow t.entries → AllByRecursion Narrow u.entries

abbrev pub after_close : Table → ℕ → List (List ℕ) → List ℕ → Option Refusal → Result Table Fault
after_close t k ls left o = elim o [ None ↦ ended t k ls left | Some r ↦ Err (text_fault r k) ]

abbrev pub after_enter : Table → ℤ → ℕ → List (List ℕ) → List ℕ → Option Refusal → Result Table Fault
after_enter t z k ls left o = elim o [ None ↦ read_body (push t z) (k + 1) ls left | Some r ↦ Err (text_fault r k) ]

abbrev pub after_entry : Table → ℕ → List (List ℕ) → List ℕ → Option ℤ → Result Table Fault
after_entry t k ls left o = elim o [ None ↦ Err (text_fault WrongForm k) | Some z ↦ after_enter t z k ls left (entry_refusal t z) ]

pub body_only : (t u : Table) (k : ℕ) (ls : List (List ℕ)) (left : List ℕ) → read_body t k ls left ≡ Ok u → Read t u ls left
body_only t u k [] [] h = no cc
body_only t u k [] (c ∷ cs) h = no cc
body_only t u k (l ∷ ls) left h₀ =
    elim (same l CLOSE) as (λ b. same l CLOSE ≡ b → cond b (after_close t k ls left (close_refusal t)) (after_entry t k ls left (read_whole l)) ≡ Ok u → Read t u (l ∷ ls) left) [
      | true ↦ (λ q. elim (close_refusal t) as (λ o. close_refusal t ≡ o → after_close t k ls left o ≡ Ok u → Read t u (l ∷ ls) left) [
        | None ↦ (λ f h. let p = ended_ok t u k ls left h in let e = p.2 in
            record {
              same_head = ap (λ x. x.head) (sym e);
              same_lines = ap (λ x. map signed_decimal t.entries ++ x ∷ ls) (same_is l CLOSE q) ∙ ap (λ x. map signed_decimal t.entries ++ CLOSE ∷ x) p.0 ∙ ap (λ (x : Table). map signed_decimal x.entries ++ CLOSE ∷ []) e;
              nothing = p.1;
              full = subst (λ (x : Table). length x.entries ≡ capacity x.head) e (close_ok t f);
              narrow = λ a. subst (λ (x : Table). AllByRecursion Narrow x.entries) e a;
            })
        | Some r ↦ (λ f h. no cc)
      ] refl)
      | false ↦ (λ q. elim (read_whole l) as (λ o. read_whole l ≡ o → after_entry t k ls left o ≡ Ok u → Read t u (l ∷ ls) left) [
        | None ↦ (λ e h. no cc)
        | Some z ↦ (λ e. elim (entry_refusal t z) as (λ o. entry_refusal t z ≡ o → after_enter t z k ls left o ≡ Ok u → Read t u (l ∷ ls) left) [
          | Some r ↦ (λ f h. no cc)
          | None ↦ (λ f h.
              let n = entry_ok t z f in
              let b = body_only (push t z) u (k + 1) ls left h in
              let le : l ≡ signed_decimal z = only_whole l z e (omega (arith, n)) in
              record {
                same_head = b.same_head;
                same_lines = ap (λ x. map signed_decimal t.entries ++ x ∷ ls) le ∙ sym (append_assoc (map signed_decimal t.entries) (signed_decimal z ∷ []) ls) ∙ ap (λ x. x ++ ls) (sym (map_push signed_decimal t.entries z)) ∙ b.same_lines;
                nothing = b.nothing;
                full = b.full;
                narrow = λ a. b.narrow (All-append Narrow t.entries (z ∷ []) a (n, tt));
              })
        ] refl)
      ] refl)
    ] refl h₀

-- no line end stands in a line of a table

pub flat_written : (ps : List (List ℕ)) (zs : List ℤ) → AllByRecursion Flat ps → AllByRecursion Small zs → Flat (written ps zs)
flat_written [] zs f h = tt
flat_written (p ∷ ps) [] f h = f.0
flat_written (p ∷ ps) (z ∷ zs) f h =
    All-append _ p (signed_decimal z ++ written ps zs) f.0 (All-append _ (signed_decimal z) (written ps zs) (flat_signed z h.0) (flat_written ps zs f.1 h.1))

pub flat_heading : (h : Head) → head_fits h ≡ true → Flat (heading_line h)
unfolding heading_line
flat_heading (screw n s t c) q =
    subst Flat (ap (λ x. codes "DEFINE COMP " ++ (decimal n ++ (codes ",#" ++ (decimal s ++ (codes ",#" ++ (decimal t ++ (codes "," ++ x))))))) (append-nil (decimal c)))
    (flat_written screw_leads (pos n ∷ pos s ∷ pos t ∷ pos c ∷ []) ((refl, (refl, (refl, (refl, (refl, (refl, (refl, (refl, (refl, (refl, (refl, (refl, tt)))))))))))), ((refl, (refl, tt)), ((refl, (refl, tt)), ((refl, tt), tt)))) (screw_small n s t c q))
flat_heading (plane r c s u t a b) q =
    subst Flat (ap (λ x. codes "DEFINE COMP " ++ (decimal r ++ (codes "." ++ (decimal c ++ (codes ",#" ++ (decimal s ++ (codes ",#" ++ (decimal u ++ (codes ",#" ++ (decimal t ++ (codes "," ++ (decimal a ++ (codes "," ++ x))))))))))))) (append-nil (decimal b)))
    (flat_written plane_leads (pos r ∷ pos c ∷ pos s ∷ pos u ∷ pos t ∷ pos a ∷ pos b ∷ []) ((refl, (refl, (refl, (refl, (refl, (refl, (refl, (refl, (refl, (refl, (refl, (refl, tt)))))))))))), ((refl, tt), ((refl, (refl, tt)), ((refl, (refl, tt)), ((refl, (refl, tt)), ((refl, tt), ((refl, tt), tt))))))) (plane_small r c s u t a b q))

pub flat_entries : (es : List ℤ) → AllByRecursion Narrow es → AllByRecursion Flat (map signed_decimal es ++ CLOSE ∷ [])
flat_entries [] r = ((refl, (refl, (refl, (refl, (refl, tt))))), tt)
flat_entries (z ∷ es) r = (flat_signed z (omega (arith, r.0)), flat_entries es r.1)

pub not_close : (z : ℤ) → Narrow z → same (signed_decimal z) CLOSE ≡ false
not_close z h =
    elim (same (signed_decimal z) CLOSE) as (λ b. same (signed_decimal z) CLOSE ≡ b → b ≡ false)
    [ true ↦ (λ q. let e : None ≡ Some z = ap read_whole (sym (same_is (signed_decimal z) CLOSE q)) ∙ back_whole z (omega arith) in no cc) | false ↦ (λ q. refl) ] refl

pub body_back : (t : Table) (k : ℕ) (es : List ℤ) → length t.entries + length es ≡ capacity t.head → AllByRecursion Narrow es
    → read_body t k (map signed_decimal es ++ CLOSE ∷ []) [] ≡ Ok (record { head = t.head; entries = t.entries ++ es })
body_back t k [] e r =
    ap (λ b. after_close t k [] [] (cond b None (Some Incomplete))) (eq-eqb (length t.entries) (capacity t.head) (omega arith))
    ∙ ap (λ x. Ok (record { head = t.head; entries = x })) (sym (append-nil t.entries))
body_back t k (z ∷ es) e r =
    let ls = map signed_decimal es ++ CLOSE ∷ [] in
    ap (λ b. cond b (after_close t k ls [] (close_refusal t)) (after_entry t k ls [] (read_whole (signed_decimal z)))) (not_close z r.0)
    ∙ ap (after_entry t k ls []) (back_whole z (omega (arith, r.0)))
    ∙ ap (λ b. after_enter t z k ls [] (cond b (Some TooManyEntries) (cond (leb (nat_abs z) 32767) None (Some OutOfRange)))) (lt-leb (capacity t.head) (length t.entries) (omega arith))
    ∙ ap (λ b. after_enter t z k ls [] (cond b None (Some OutOfRange))) (le-leb (nat_abs z) 32767 r.0)
    ∙ body_back (push t z) (k + 1) es (simp length-append (omega arith)) r.1
    ∙ ap (λ x. Ok (record { head = t.head; entries = x })) (append_assoc t.entries (z ∷ []) es)
