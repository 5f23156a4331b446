use Rattle.std.proofs.Common.{◌≡◌, ℕ, true, false, cond, eqb, List, [], ◌∷◌, ◌++◌, drop, ℤ, Some, None, Option, sym, refl, ap, ◌∙◌, arith, Bor, MatchOption}
use Rattle.std.specs.Option.{option_map}
use Rattle.std.proofs.lemmas.Bool.{eqb-true, eq-eqb}
use Rattle.lines.specs.Fields.{strip}

pub strip_back : (p rest : List ℕ) → strip p (p ++ rest) ≡ Some rest
strip_back [] rest = refl
strip_back (c ∷ p) rest = ap (λ b. cond b (strip p (p ++ rest)) None) (eq-eqb c c refl) ∙ strip_back p rest

pub strip_only : (p s rest : List ℕ) → strip p s ≡ Some rest → s ≡ p ++ rest
strip_only [] s rest h = cc
strip_only (q ∷ p) [] rest h = let w : ◌≡◌ {A = ℕ} 0 1 = cc in absurd (omega arith)
strip_only (q ∷ p) (c ∷ cs) rest h =
    elim (eqb q c) as (λ b. eqb q c ≡ b → cond b (strip p cs) None ≡ Some rest → c ∷ cs ≡ q ∷ (p ++ rest)) [
      | true ↦ (λ e g. let x = eqb-true q c e in let y = strip_only p cs rest g in cc)
      | false ↦ (λ e g. let w : ◌≡◌ {A = ℕ} 0 1 = cc in absurd (omega arith))
    ] refl h

pub strip_none : (p s : List ℕ) → ((rest : List ℕ) → s ≡ p ++ rest → ⊥) → strip p s ≡ None
strip_none p s h = elim (strip p s) as (λ o. strip p s ≡ o → o ≡ None) [ None ↦ (λ e. refl) | Some rest ↦ (λ e. absurd (h rest (strip_only p s rest e))) ] refl

abbrev pub number_then : List ℕ → Option (ℤ × ℕ) → Option (ℤ × List ℕ)
number_then rest o = elim o [ None ↦ None | Some x ↦ Some (x.0, drop x.1 rest) ]

-- what `strip_prefix` answers
pub stripped : (p s : List ℕ) (r : Option (Bor (List ℕ))) → MatchOption r ((rest : List ℕ) → s ≡ p ++ rest → ⊥) (λ x. s ≡ p ++ x.now) → option_map (λ x. x.now) r ≡ strip p s
stripped p s None h = sym (strip_none p s h)
stripped p s (Some x) h = sym (ap (strip p) h ∙ strip_back p x.now)
