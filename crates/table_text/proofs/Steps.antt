use Rattle.std.proofs.Common.{◌≡◌, ℕ, ◌+◌, true, false, cond, eqb, List, [], ◌∷◌, length, ℤ, Some, None, Ok, Err, Option, Result, refl, sym, ap, ◌∙◌, arith}
use Rattle.std.specs.Option.{option_map}
use Rattle.std.specs.Result.{result_err, result_map_both}
use Rattle.std.proofs.lemmas.List.{length_push}
use Rattle.numerals.specs.Numbers.{read_whole}
use Rattle.lines.specs.Lines.{Cut, onto, cut, CLOSE}
use Rattle.lines.proofs.Cuts.{not_same}
use Rattle.faults.specs.declared.fault.Fault.{Fault}
use Rattle.faults.specs.declared.fault.Refusal.{Refusal}
use Rattle.faults.specs.declared.fault.Refusal.TheVariants.{WrongForm}
use Rattle.faults.specs.Faults.{text_fault}
use Rattle.headings.specs.Heads.{sheet_fault}
use Rattle.sheets.specs.Tables.{Table, push, entry_refusal, close_refusal}
use Rattle.table_text.specs.HeadingTexts.{in_text}
use Rattle.table_text.specs.TableTexts.{ended, read_body, read_on}

-- the line after the entries that are in
abbrev pub next : Table → ℕ
next t = length t.entries + 2

-- a fault of the sheet says which refusal it was
pub refused_by : (o : Option Refusal) (f : Fault) → Some f ≡ option_map sheet_fault o → o ≡ Some f.refusal
refused_by None f e = let w : ◌≡◌ {A = ℕ} 0 1 = cc in absurd (omega arith)
refused_by (Some r) f e = ap (λ x. Some x.refusal) (let g : sheet_fault r ≡ f = cc in g)

pub accepted_by : (o : Option Refusal) → None ≡ option_map sheet_fault o → o ≡ None
accepted_by None e = refl
accepted_by (Some r) e = let w : ◌≡◌ {A = ℕ} 0 1 = cc in absurd (omega arith)

pub onto_ended : (t : Table) (k c : ℕ) (ls : List (List ℕ)) (left : List ℕ) → ended t k (onto c ls left).lines (onto c ls left).left ≡ Err (text_fault WrongForm (k + 1))
onto_ended t k c [] left = refl
onto_ended t k c (l ∷ ls) left = refl

pub ended_more : (t : Table) (k : ℕ) (s : List ℕ) → (length s ≡ 0 → ⊥) → ended t k (cut s).lines (cut s).left ≡ Err (text_fault WrongForm (k + 1))
ended_more t k [] h = absurd (h refl)
ended_more t k (c ∷ cs) h =
    elim (eqb c 10) as (λ b. ended t k (cond b (record { lines = [] ∷ (cut cs).lines; left = (cut cs).left }) (onto c (cut cs).lines (cut cs).left)).lines (cond b (record { lines = [] ∷ (cut cs).lines; left = (cut cs).left }) (onto c (cut cs).lines (cut cs).left)).left ≡ Err (text_fault WrongForm (k + 1)))
    [ true ↦ refl | false ↦ onto_ended t k c (cut cs).lines (cut cs).left ]

pub ended_none : (t : Table) (k : ℕ) (s : List ℕ) → length s ≡ 0 → ended t k (cut s).lines (cut s).left ≡ Ok t
ended_none t k [] h = refl
ended_none t k (c ∷ cs) h = absurd (omega arith)

abbrev pub after_close : Table → ℕ → List (List ℕ) → List ℕ → Option Refusal → Result Table Fault
after_close t k ls left o = elim o [ None ↦ ended t k ls left | Some r ↦ Err (text_fault r k) ]

abbrev pub after_enter : Table → ℤ → ℕ → List (List ℕ) → List ℕ → Option Refusal → Result Table Fault
after_enter t z k ls left o = elim o [ None ↦ read_body (push t z) (k + 1) ls left | Some r ↦ Err (text_fault r k) ]

abbrev pub after_entry : Table → ℕ → List (List ℕ) → List ℕ → Option ℤ → Result Table Fault
after_entry t k ls left o = elim o [ None ↦ Err (text_fault WrongForm k) | Some z ↦ after_enter t z k ls left (entry_refusal t z) ]

-- one line of a body
module _ (t : Table) (rest l after : List ℕ) (here : cut rest ≡ record { lines = l ∷ (cut after).lines; left = (cut after).left }) where
  pub at_line : read_on t rest ≡ read_body t (length t.entries + 2) (l ∷ (cut after).lines) (cut after).left
  at_line = ap (λ (x : Cut). read_body t (length t.entries + 2) x.lines x.left) here

  pub at_close : l ≡ CLOSE → (o : Option Refusal) → close_refusal t ≡ o → read_on t rest ≡ after_close t (length t.entries + 2) (cut after).lines (cut after).left o
  at_close e o h = at_line ∙ ap (λ x. read_body t (length t.entries + 2) (x ∷ (cut after).lines) (cut after).left) e ∙ ap (after_close t (length t.entries + 2) (cut after).lines (cut after).left) h

  pub at_more : l ≡ CLOSE → close_refusal t ≡ None → (length after ≡ 0 → ⊥) → read_on t rest ≡ Err (text_fault WrongForm (length t.entries + 2 + 1))
  at_more e h m = at_close e None h ∙ ended_more t (length t.entries + 2) after m

  pub at_end : l ≡ CLOSE → close_refusal t ≡ None → length after ≡ 0 → read_on t rest ≡ Ok t
  at_end e h m = at_close e None h ∙ ended_none t (length t.entries + 2) after m

  pub at_other : (l ≡ CLOSE → ⊥) → (o : Option ℤ) → read_whole l ≡ o → read_on t rest ≡ after_entry t (length t.entries + 2) (cut after).lines (cut after).left o
  at_other e o h =
      at_line ∙ ap (λ b. cond b (after_close t (length t.entries + 2) (cut after).lines (cut after).left (close_refusal t)) (after_entry t (length t.entries + 2) (cut after).lines (cut after).left (read_whole l))) (not_same l e)
      ∙ ap (after_entry t (length t.entries + 2) (cut after).lines (cut after).left) h

  pub at_refused : (l ≡ CLOSE → ⊥) → (z : ℤ) → read_whole l ≡ Some z → (r : Refusal) → entry_refusal t z ≡ Some r → read_on t rest ≡ Err (text_fault r (length t.entries + 2))
  at_refused e z h r q = at_other e (Some z) h ∙ ap (after_enter t z (length t.entries + 2) (cut after).lines (cut after).left) q

  pub at_unentered : (l ≡ CLOSE → ⊥) → (z : ℤ) → read_whole l ≡ Some z → (k : ℕ) (said : Result (Unit {0}) Fault) (g : Fault)
      → Err g ≡ result_map_both (λ x. x) (in_text k) said → result_err said ≡ option_map sheet_fault (entry_refusal t z) → k ≡ length t.entries + 2 → read_on t rest ≡ Err g
  at_unentered e z h k (Ok x) g f q n = let w : ◌≡◌ {A = ℕ} 0 1 = cc in absurd (omega arith)
  at_unentered e z h k (Err y) g f q n =
      let named : g ≡ text_fault y.refusal k = cc in
      at_refused e z h y.refusal (refused_by (entry_refusal t z) y q) ∙ ap (λ m. Err (text_fault y.refusal m)) (sym n) ∙ ap (λ x. Err x) (sym named)

  pub at_entry : (l ≡ CLOSE → ⊥) → (z : ℤ) → read_whole l ≡ Some z → entry_refusal t z ≡ None → read_on t rest ≡ read_on (push t z) after
  at_entry e z h q =
      at_other e (Some z) h ∙ ap (after_enter t z (length t.entries + 2) (cut after).lines (cut after).left) q
      ∙ ap (λ k. read_body (push t z) k (cut after).lines (cut after).left) (omega (arith, length_push t.entries z))
