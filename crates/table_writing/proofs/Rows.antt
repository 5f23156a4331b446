-- The lines of a table, put on a page one after another.
use Rattle.std.proofs.Common.{◌≡◌, ℕ, ◌+◌, ◌<◌, append-nil, List, [], ◌∷◌, ◌++◌, map, length, get_or, take, ℤ, pos, sym, refl, ap, ◌∙◌}
use Rattle.std.specs.Fmt.{signed_decimal}
use Rattle.std.proofs.lemmas.List.{append_assoc, map-append, take_more}
use Rattle.lines.specs.Lines.{joined_lines}
use Rattle.filled.specs.declared.filled.Filled.{Filled}
use Rattle.filled.specs.Items.{items}
use Rattle.filled.proofs.Filling.{take-items}
use Rattle.table_writing.specs.Pages.{clip}
use Rattle.table_writing.proofs.Pages.{then}

-- a field, and what follows it
pub then_field : (a b z p q rest : List ℕ) → b ≡ clip (a ++ (p ++ q)) → z ≡ clip (b ++ rest) → z ≡ clip (a ++ (p ++ (q ++ rest)))
then_field a b z p q rest e f = then a b z (p ++ q) rest e f ∙ ap (λ x. clip (a ++ x)) (append_assoc p q rest)

pub joined_append : (a b : List (List ℕ)) → joined_lines (a ++ b) [] ≡ joined_lines a [] ++ joined_lines b []
joined_append [] b = refl
joined_append (l ∷ a) b = ap (λ x. l ++ 10 ∷ x) (joined_append a b) ∙ sym (append_assoc l (10 ∷ joined_lines a []) (joined_lines b []))

-- the lines of the first i entries
abbrev pub rows : List ℤ → ℕ → List ℕ
rows es i = joined_lines (map signed_decimal (take i es)) []

pub rows_more : (es : List ℤ) (i : ℕ) → i < length es → rows es (i + 1) ≡ rows es i ++ (signed_decimal (get_or es i (pos 0)) ++ 10 ∷ [])
rows_more es i h =
    ap (λ x. joined_lines (map signed_decimal x) []) (take_more es i (pos 0) h)
    ∙ ap (λ x. joined_lines x []) (map-append signed_decimal (take i es) (get_or es i (pos 0) ∷ []))
    ∙ joined_append (map signed_decimal (take i es)) (signed_decimal (get_or es i (pos 0)) ∷ [])

-- one line more

-- no entry yet, one more, and all of them
pub rows_none : (f : Filled ℕ 2304) (es : List ℤ) → items f ≡ clip (items f ++ rows es 0)
rows_none f es = sym (ap clip (append-nil (items f)) ∙ take-items f)

pub rows_next : (a b c : List ℕ) (es : List ℤ) (i : ℕ) (z : ℤ) → b ≡ clip (a ++ rows es i) → i < length es → z ≡ get_or es i (pos 0) → c ≡ clip (b ++ (signed_decimal z ++ 10 ∷ [])) → c ≡ clip (a ++ rows es (i + 1))
rows_next a b c es i z e h is f =
    then a b c (rows es i) (signed_decimal z ++ 10 ∷ []) e f
    ∙ ap (λ t. clip (a ++ (rows es i ++ (signed_decimal t ++ 10 ∷ [])))) is ∙ ap (λ t. clip (a ++ t)) (sym (rows_more es i h))
