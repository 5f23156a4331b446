use Rattle.std.specs.List.{position, position_or_len}
use Rattle.std.proofs.Common.{◌≡◌, ℕ, suc, ◌-◌, ◌<◌, not, nat_lt, Some, None, Option, subst, ◌+◌, ◌<◌, true, false, cond, eqb, List, [], ◌∷◌, ◌++◌, length, get_or, take, drop, ℤ, pos, negsuc, nat_abs, decimal, sym, refl, ap, ◌∙◌, arith}
use Rattle.std.specs.Fmt.{signed_decimal}
use Rattle.std.specs.Char.{is_ascii_digit}
use Rattle.std.specs.Str.{all_ascii_digits}
use Rattle.std.specs.List.{AllByRecursion}
use Rattle.std.proofs.lemmas.List.{take-append-drop, drop_more, take_rest, take_all, length-drop}
use Rattle.std.proofs.lemmas.Bool.{and_parts, eqb-true, ltb-true, ltb-false}
use Rattle.std.proofs.lemmas.Fmt.{digits_decimal}
use Rattle.std.proofs.lemmas.Bool.Decides.{nat_tests}
use Rattle.lines.specs.Lines.{Cut, onto, cut, joined_lines, CLOSE, same}
use Rattle.numerals.proofs.NumberLaws.{own}

pub onto_joined : (c : ℕ) (ls : List (List ℕ)) (left : List ℕ) → joined_lines (onto c ls left).lines (onto c ls left).left ≡ c ∷ joined_lines ls left
onto_joined c [] left = refl
onto_joined c (l ∷ ls) left = refl

-- a text is its lines put together again
pub cut_joined : (s : List ℕ) → s ≡ joined_lines (cut s).lines (cut s).left
cut_joined [] = refl
cut_joined (c ∷ cs) =
    elim (eqb c 10) as (λ b. eqb c 10 ≡ b → c ∷ cs ≡ joined_lines (cond b (record { lines = [] ∷ (cut cs).lines; left = (cut cs).left }) (onto c (cut cs).lines (cut cs).left)).lines (cond b (record { lines = [] ∷ (cut cs).lines; left = (cut cs).left }) (onto c (cut cs).lines (cut cs).left)).left) [
      | true ↦ (λ e. ap (λ x. x ∷ cs) (eqb-true c 10 e) ∙ ap (λ r. 10 ∷ r) (cut_joined cs))
      | false ↦ (λ e. ap (λ r. c ∷ r) (cut_joined cs) ∙ sym (onto_joined c (cut cs).lines (cut cs).left))
    ] refl

pub same_is : (xs ys : List ℕ) → same xs ys ≡ true → xs ≡ ys
same_is [] [] h = refl
same_is [] (y ∷ ys) h = let w : ◌≡◌ {A = ℕ} 0 1 = cc in absurd (omega arith)
same_is (x ∷ xs) [] h = let w : ◌≡◌ {A = ℕ} 0 1 = cc in absurd (omega arith)
same_is (x ∷ xs) (y ∷ ys) h = let p = and_parts (eqb x y) (same xs ys) h in let e = eqb-true x y p.0 in let f = same_is xs ys p.1 in cc

-- no line end in a line
abbrev pub Flat : List ℕ → Type 0
Flat l = AllByRecursion (λ c. eqb c 10 ≡ false) l

pub cut_line : (l s : List ℕ) → Flat l → cut (l ++ 10 ∷ s) ≡ record { lines = l ∷ (cut s).lines; left = (cut s).left }
cut_line [] s f = refl
cut_line (c ∷ cs) s f =
    ap (λ b. cond b (record { lines = [] ∷ (cut (cs ++ 10 ∷ s)).lines; left = (cut (cs ++ 10 ∷ s)).left }) (onto c (cut (cs ++ 10 ∷ s)).lines (cut (cs ++ 10 ∷ s)).left)) f.0
    ∙ ap (λ (x : Cut). onto c x.lines x.left) (cut_line cs s f.1)

pub cut_lines : (ls : List (List ℕ)) → AllByRecursion Flat ls → cut (joined_lines ls []) ≡ record { lines = ls; left = [] }
cut_lines [] f = refl
cut_lines (l ∷ ls) f =
    cut_line l (joined_lines ls []) f.0 ∙ ap (λ (x : Cut). record { lines = l ∷ x.lines; left = x.left }) (cut_lines ls f.1)

pub flat_digits : (ds : List ℕ) → all_ascii_digits ds ≡ true → Flat ds
flat_digits [] h = tt
flat_digits (c ∷ cs) h = let p = and_parts (is_ascii_digit c) (all_ascii_digits cs) h in (grind (arith, nat_tests), flat_digits cs p.1)

pub flat_signed : (z : ℤ) → nat_abs z < 10000000000 → Flat (signed_decimal z)
flat_signed (pos n) h = flat_digits (decimal n) (digits_decimal own n (omega arith))
flat_signed (negsuc n) h = (refl, flat_digits (decimal (suc n)) (digits_decimal own (suc n) (omega arith)))

pub flat_cut : (s : List ℕ) → Flat s → cut s ≡ record { lines = []; left = s }
flat_cut [] f = refl
flat_cut (c ∷ cs) f =
    ap (λ b. cond b (record { lines = [] ∷ (cut cs).lines; left = (cut cs).left }) (onto c (cut cs).lines (cut cs).left)) f.0
    ∙ ap (λ (x : Cut). onto c x.lines x.left) (flat_cut cs f.1)

pub cut_at : (s : List ℕ) (i : ℕ) → i < length s → Flat (take i s) → get_or s i 0 ≡ 10
    → cut s ≡ record { lines = take i s ∷ (cut (drop (i + 1) s)).lines; left = (cut (drop (i + 1) s)).left }
cut_at s i h f e =
    ap cut (sym (take-append-drop i s) ∙ ap (λ x. take i s ++ x) (drop_more s i 0 h ∙ ap (λ c. c ∷ drop (i + 1) s) e))
    ∙ cut_line (take i s) (drop (i + 1) s) f

pub not_same : (l : List ℕ) → (l ≡ CLOSE → ⊥) → same l CLOSE ≡ false
not_same l h = elim (same l CLOSE) as (λ b. same l CLOSE ≡ b → b ≡ false) [ true ↦ (λ q. absurd (h (same_is l CLOSE q))) | false ↦ (λ q. refl) ] refl

-- the bytes before the first line end
abbrev pub line_end : List ℕ → ℕ
line_end s = position_or_len (λ c. eqb c 10) s

pub flat_line : (s : List ℕ) → Flat (take (line_end s) s)
flat_line [] = tt
flat_line (c ∷ cs) =
    let more : 1 + line_end cs ≡ suc (line_end cs) = omega arith in
    elim (eqb c 10) as (λ b. eqb c 10 ≡ b → Flat (take (cond (not b) (1 + line_end cs) 0) (c ∷ cs))) [
      | true ↦ (λ e. tt)
      | false ↦ (λ e. subst (λ k. Flat (take k (c ∷ cs))) (sym more) (e, flat_line cs))
    ] refl

pub ends_there : (s : List ℕ) → line_end s < length s → get_or s (line_end s) 0 ≡ 10
ends_there [] h = absurd (omega arith)
ends_there (c ∷ cs) h =
    let more : 1 + line_end cs ≡ suc (line_end cs) = omega arith in
    elim (eqb c 10) as (λ b. eqb c 10 ≡ b → cond (not b) (1 + line_end cs) 0 < length (c ∷ cs) → get_or (c ∷ cs) (cond (not b) (1 + line_end cs) 0) 0 ≡ 10) [
      | true ↦ (λ e l. eqb-true c 10 e)
      | false ↦ (λ e l. ap (λ k. get_or (c ∷ cs) k 0) more ∙ ends_there cs (omega arith))
    ] refl h

-- a text with no line end is no line
pub cut_nowhere : (s : List ℕ) → position (λ c. eqb c 10) s ≡ None → cut s ≡ record { lines = []; left = s }
cut_nowhere s =
    elim (nat_lt (line_end s) (length s)) as (λ b. nat_lt (line_end s) (length s) ≡ b → ◌≡◌ {A = Option ℕ} (cond b (Some (line_end s)) None) None → cut s ≡ record { lines = []; left = s }) [
      | true ↦ (λ e f. let z : ◌≡◌ {A = ℕ} 0 1 = cc in absurd (omega arith))
      | false ↦ (λ e f. flat_cut s (subst Flat (take_all (line_end s) s (ltb-false (line_end s) (length s) e)) (flat_line s)))
    ] refl

-- one with an end is cut there; what follows is written as a slice reads it
pub cut_there : (s : List ℕ) (i : ℕ) → position (λ c. eqb c 10) s ≡ Some i
    → (cut s ≡ record { lines = take i s ∷ (cut (take (length s - (i + 1)) (drop (i + 1) s))).lines; left = (cut (take (length s - (i + 1)) (drop (i + 1) s))).left })
    × (length (take (length s - (i + 1)) (drop (i + 1) s)) < length s)
cut_there s i =
    elim (nat_lt (line_end s) (length s)) as (λ b. nat_lt (line_end s) (length s) ≡ b → ◌≡◌ {A = Option ℕ} (cond b (Some (line_end s)) None) (Some i)
    → (cut s ≡ record { lines = take i s ∷ (cut (take (length s - (i + 1)) (drop (i + 1) s))).lines; left = (cut (take (length s - (i + 1)) (drop (i + 1) s))).left })
    × (length (take (length s - (i + 1)) (drop (i + 1) s)) < length s)) [
      | true ↦ (λ e f.
          let at : line_end s ≡ i = cc in
          let h : i < length s = omega (arith, ltb-true (line_end s) (length s) e) in
          let flat : Flat (take i s) = subst (λ k. Flat (take k s)) at (flat_line s) in
          let end : get_or s i 0 ≡ 10 = subst (λ k. get_or s k 0 ≡ 10) at (ends_there s (omega arith)) in
          let rest : take (length s - (i + 1)) (drop (i + 1) s) ≡ drop (i + 1) s = take_rest s (i + 1) in
          (cut_at s i h flat end ∙ ap (λ (x : List ℕ). record { lines = take i s ∷ (cut x).lines; left = (cut x).left }) (sym rest), omega (arith, ap length rest, length-drop (i + 1) s)))
      | false ↦ (λ e f. let z : ◌≡◌ {A = ℕ} 0 1 = cc in absurd (omega arith))
    ] refl
