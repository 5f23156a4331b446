-- The numbers of a line, read one after another.
use Rattle.std.proofs.Common.{◌≡◌, ℕ, ◌+◌, ◌<◌, List, [], ◌∷◌, ◌++◌, length, get_or, drop, ℤ, Some, None, Option, refl, sym, ap, ◌∙◌, append_assoc}
use Rattle.std.specs.Option.{option_map}
use Rattle.std.proofs.lemmas.List.{at_drop_more}
use Rattle.lines.specs.Fields.{read_field, read_fields}

-- numbers that were read, before those still to come
abbrev pub before : List ℤ → Option (List ℤ) → Option (List ℤ)
before xs o = option_map (λ zs. xs ++ zs) o

-- what the first lead and its number leave to read
abbrev pub after_field : List (List ℕ) → Option (ℤ × List ℕ) → Option (List ℤ)
after_field ps o = elim o [ None ↦ None | Some x ↦ elim (read_fields ps x.1) [ None ↦ None | Some zs ↦ Some (x.0 ∷ zs) ] ]

before_none : (xs : List ℤ) (o : Option (List ℤ)) → o ≡ None → before xs o ≡ None
before_none xs o e = ap (before xs) e

before_more : (xs : List ℤ) (z : ℤ) (o : Option (List ℤ)) → before xs (elim o [ None ↦ None | Some zs ↦ Some (z ∷ zs) ]) ≡ before (xs ++ z ∷ []) o
before_more xs z None = refl
before_more xs z (Some zs) = ap (λ ys. Some ys) (sym (append_assoc xs (z ∷ []) zs))

pub fields_none : (ls : List (List ℕ)) (line rest p : List ℕ) (xs : List ℤ) (i : ℕ) → i < length ls → get_or ls i [] ≡ p → read_field p rest ≡ None
    → read_fields ls line ≡ before xs (read_fields (drop i ls) rest) → read_fields ls line ≡ None
fields_none ls line rest p xs i h g e inv =
    inv ∙ before_none xs (read_fields (drop i ls) rest) (at_drop_more (λ l. read_fields l rest) ls i [] h ∙ ap (λ q. read_fields (q ∷ drop (i + 1) ls) rest) g ∙ ap (after_field (drop (i + 1) ls)) e)

pub fields_more : (ls : List (List ℕ)) (line rest p after : List ℕ) (xs : List ℤ) (z : ℤ) (i : ℕ) → i < length ls → get_or ls i [] ≡ p → read_field p rest ≡ Some (z, after)
    → read_fields ls line ≡ before xs (read_fields (drop i ls) rest) → read_fields ls line ≡ before (xs ++ z ∷ []) (read_fields (drop (i + 1) ls) after)
fields_more ls line rest p after xs z i h g e inv =
    inv
    ∙ ap (before xs) (at_drop_more (λ l. read_fields l rest) ls i [] h ∙ ap (λ q. read_fields (q ∷ drop (i + 1) ls) rest) g ∙ ap (after_field (drop (i + 1) ls)) e)
    ∙ before_more xs z (read_fields (drop (i + 1) ls) after)
