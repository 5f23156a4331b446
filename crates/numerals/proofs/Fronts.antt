-- The digits that a text begins with.
use Rattle.std.proofs.Common.{◌≡◌, ℕ, ◌+◌, ◌<◌, ◌≤◌, true, false, cond, List, [], ◌∷◌, length, get_or, take, drop, refl, ap, ◌∙◌}
use Rattle.std.specs.Char.{is_ascii_digit}
use Rattle.std.proofs.lemmas.List.{at_drop_more, at_drop_all}
use Rattle.numerals.specs.Numbers.{front}

-- a digit goes before what follows it
pub front_more : {Y : Type 0} (F : List ℕ → Y) (s : List ℕ) (i : ℕ) → i < length s → is_ascii_digit (get_or s i 0) ≡ true → F (front (drop i s)) ≡ F (get_or s i 0 ∷ front (drop (i + 1) s))
front_more F s i h e = at_drop_more (λ l. F (front l)) s i 0 h ∙ ap (λ b. F (cond b (get_or s i 0 ∷ front (drop (i + 1) s)) [])) e

-- they end where the first other byte stands
pub front_stop : {Y : Type 0} (F : List ℕ → Y) (s : List ℕ) (i : ℕ) → i < length s → is_ascii_digit (get_or s i 0) ≡ false → F (front (drop i s)) ≡ F []
front_stop F s i h e = at_drop_more (λ l. F (front l)) s i 0 h ∙ ap (λ b. F (cond b (get_or s i 0 ∷ front (drop (i + 1) s)) [])) e

-- or with the text
pub front_end : {Y : Type 0} (F : List ℕ → Y) (s : List ℕ) (i : ℕ) → length s ≤ i → F (front (drop i s)) ≡ F []
front_end F s i h = at_drop_all (λ l. F (front l)) s i h

pub front_prefix : (s : List ℕ) → take (length (front s)) s ≡ front s
front_prefix [] = refl
front_prefix (c ∷ cs) =
    elim (is_ascii_digit c) as (λ b. take (length (cond b (c ∷ front cs) [])) (c ∷ cs) ≡ cond b (c ∷ front cs) [])
    [ true ↦ ap (λ l. c ∷ l) (front_prefix cs) | false ↦ refl ]

pub front_taken : (s : List ℕ) (n : ℕ) → n ≡ length (front s) → take n s ≡ front s
front_taken s n e = ap (λ k. take k s) e ∙ front_prefix s
