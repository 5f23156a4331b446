-- Items filled in one after another.
use Rattle.std.proofs.Common.{◌≡◌, ℕ, ◌+◌, ◌<◌, ◌≤◌, List, [], ◌∷◌, ◌++◌, length, get_or, take, sym, ap, ◌∙◌, ⊎_elim, append-nil, arith}
use Rattle.std.proofs.lemmas.List.{length-take, take_all, take-take, take-append-le, append_assoc, take_more}
use Rattle.std.proofs.lemmas.Bool.{cases_lt}
use Rattle.filled.specs.declared.filled.Filled.{Filled}
use Rattle.filled.specs.Items.{items}

-- what is let go once is let go
pub take_take-append : {T : Type 0} (n : ℕ) (x y : List T) → take n (take n x ++ y) ≡ take n (x ++ y)
take_take-append n x y =
    ⊎_elim
    (λ h. ap (λ z. take n (z ++ y)) (take_all n x (omega arith)))
    (λ h.
    let l : n ≤ length (take n x) = omega (arith, length-take n x) in
    take-append-le n (take n x) y l ∙ take-take n n x (omega arith) ∙ sym (take-append-le n x y h))
    (cases_lt (length x) n)

-- one filling after another
pub then : {T : Type 0} (n : ℕ) (a b c x y : List T) → b ≡ take n (a ++ x) → c ≡ take n (b ++ y) → c ≡ take n (a ++ (x ++ y))
then n a b c x y e f = f ∙ ap (λ z. take n (z ++ y)) e ∙ take_take-append n (a ++ x) y ∙ ap (take n) (append_assoc a x y)

pub length-items-le : {T : Type 0} {N : ℕ} (f : Filled T N) → length (items f) ≤ N
length-items-le f = omega (arith, length-take f.filled f.places, f.few)

pub take-items : {T : Type 0} {N : ℕ} (f : Filled T N) → take N (items f) ≡ items f
take-items {T} {N} f = take_all N (items f) (length-items-le f)

-- nothing filled in yet
pub filled_none : {T : Type 0} {N : ℕ} (f : Filled T N) (xs : List T) → items f ≡ take N (items f ++ take 0 xs)
filled_none {T} {N} f xs = sym (ap (take N) (append-nil (items f)) ∙ take-items f)

-- one more of a list
pub filled_more : {T : Type 0} (n : ℕ) (a b c xs : List T) (i : ℕ) (x : T) → b ≡ take n (a ++ take i xs) → i < length xs → x ≡ get_or xs i x
    → c ≡ take n (b ++ x ∷ []) → c ≡ take n (a ++ take (i + 1) xs)
filled_more n a b c xs i x e h is f =
    let more : take (i + 1) xs ≡ take i xs ++ x ∷ [] = take_more xs i x h ∙ ap (λ y. take i xs ++ y ∷ []) (sym is) in
    then n a b c (take i xs) (x ∷ []) e f ∙ ap (λ y. take n (a ++ y)) (sym more)

-- all of a list
pub filled_all : {T : Type 0} (n : ℕ) (a b xs : List T) (i : ℕ) → b ≡ take n (a ++ take i xs) → length xs ≤ i → b ≡ take n (a ++ xs)
filled_all n a b xs i e h = e ∙ ap (λ y. take n (a ++ y)) (take_all i xs h)
