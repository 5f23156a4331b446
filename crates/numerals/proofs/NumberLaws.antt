use Rattle.std.proofs.Common.{◌≡◌, ℕ, zero, suc, ◌+◌, ◌-◌, ◌*◌, ◌<◌, ◌≤◌, min, Bool, true, false, cond, not, ◌&&◌, eqb, List, [], ◌∷◌, ◌++◌, length, get_or, drop, ℤ, pos, negsuc, neg_ℤ, nat_abs, Some, None, decimal, Option, unwrap_or, sym, refl, ap, ◌∙◌, subst, ⊎_elim, add-one, arith, rules}
use Rattle.std.specs.Str.{all_ascii_digits}
use Rattle.std.specs.Fmt.{signed_decimal}
use Rattle.std.proofs.lemmas.Str.Parse.{IsNumeralModel, numerals_by_fold}
use Rattle.std.proofs.lemmas.Fmt.{decimal-digits_value, digits_decimal, digits_value-decimal, decimal_digit, first_decimal, decimal_nonempty}
use Rattle.std.proofs.lemmas.Bool.{cases_lt, and_parts, and_from, ltb-true, eqb-true, eqb-false, ne_eqb, eq-eqb, not-true, not_from_false}
use Rattle.std.proofs.lemmas.Bool.Decides.{nat_tests}
use Rattle.std.specs.Char.{is_ascii_digit}
use Rattle.std.proofs.lemmas.List.{drop-drop, drop_all, append-nil, get_or_append_left}
use Rattle.numerals.specs.Numbers.{front, worth, plain, read_plain, read_minus, read_number, read_whole}

abbrev pub read_on : ℕ → List ℕ → ℕ
read_on n [] = n
read_on n (c ∷ cs) = read_on (n * 10 + (c - 48)) cs

pub own : IsNumeralModel (λ ds. all_ascii_digits ds ≡ true) (read_on 0)
own = numerals_by_fold _ (search rules) read_on (search rules)

pub read_on_ge : (n : ℕ) (ds : List ℕ) → n ≤ read_on n ds
read_on_ge n [] = omega arith
read_on_ge n (c ∷ cs) = omega (arith, read_on_ge (n * 10 + (c - 48)) cs)

pub worth_full : (ds : List ℕ) → worth 10000000000 ds ≡ 10000000000
worth_full [] = refl
worth_full (c ∷ cs) = ap (λ m. worth m cs) (omega arith) ∙ worth_full cs

pub worth_short : (n : ℕ) (ds : List ℕ) → worth n ds < 10000000000 → worth n ds ≡ read_on n ds
worth_short n [] h = refl
worth_short n (c ∷ cs) h =
    ⊎_elim
    (λ lo. let e : min (n * 10 + (c - 48)) 10000000000 ≡ n * 10 + (c - 48) = omega arith in
    ap (λ m. worth m cs) e ∙ worth_short (n * 10 + (c - 48)) cs (subst (λ m. worth m cs < 10000000000) e h))
    (λ hi. let e : min (n * 10 + (c - 48)) 10000000000 ≡ 10000000000 = omega arith in
    absurd (omega (arith, subst (λ m. worth m cs < 10000000000) e h, worth_full cs)))
    (cases_lt (n * 10 + (c - 48)) 10000000000)

pub worth_is : (n : ℕ) (ds : List ℕ) → read_on n ds < 10000000000 → worth n ds ≡ read_on n ds
worth_is n [] h = refl
worth_is n (c ∷ cs) h =
    let e : min (n * 10 + (c - 48)) 10000000000 ≡ n * 10 + (c - 48) = omega (arith, read_on_ge (n * 10 + (c - 48)) cs) in
    ap (λ m. worth m cs) e ∙ worth_is (n * 10 + (c - 48)) cs h

pub all_front : (s : List ℕ) → all_ascii_digits (front s) ≡ true
all_front [] = refl
all_front (c ∷ cs) =
    elim (is_ascii_digit c) as (λ b. is_ascii_digit c ≡ b → all_ascii_digits (cond b (c ∷ front cs) []) ≡ true) [ true ↦ (λ e. and_from _ _ e (all_front cs)) | false ↦ (λ e. refl) ] refl

pub split_front : (s : List ℕ) → s ≡ front s ++ drop (length (front s)) s
split_front [] = refl
split_front (c ∷ cs) =
    elim (is_ascii_digit c) as (λ b. c ∷ cs ≡ cond b (c ∷ front cs) [] ++ drop (length (cond b (c ∷ front cs) [])) (c ∷ cs)) [ true ↦ ap (λ l. c ∷ l) (split_front cs) | false ↦ refl ]

pub plain_some : (ds : List ℕ) → plain ds ≡ true → 0 < length ds
plain_some ds h = ltb-true 0 (length ds) (and_parts _ _ h).0

pub plain_lead : (ds : List ℕ) → plain ds ≡ true → get_or ds 0 0 ≡ 48 → length ds ≡ 1
plain_lead ds h e = grind (arith, nat_tests)

-- only the canonical text of a number is read
pub only_plain : (s : List ℕ) → plain (front s) ≡ true → worth 0 (front s) < 10000000000 → s ≡ decimal (worth 0 (front s)) ++ drop (length (front s)) s
only_plain s p h =
    let e = worth_short 0 (front s) h in
    split_front s ∙ ap (λ ds. ds ++ drop (length (front s)) s)
    (sym (ap decimal e ∙ decimal-digits_value own (front s) (all_front s) (plain_some (front s) p) (plain_lead (front s) p) (omega arith)))

pub front_none : (rest : List ℕ) → is_ascii_digit (get_or rest 0 0) ≡ false → front rest ≡ []
front_none [] h = refl
front_none (c ∷ cs) h = ap (λ b. cond b (c ∷ front cs) []) h

pub front_back : (ds rest : List ℕ) → all_ascii_digits ds ≡ true → is_ascii_digit (get_or rest 0 0) ≡ false → front (ds ++ rest) ≡ ds
front_back [] rest a h = front_none rest h
front_back (c ∷ cs) rest a h =
    let p = and_parts _ _ a in ap (λ b. cond b (c ∷ front (cs ++ rest)) []) p.0 ∙ ap (λ l. c ∷ l) (front_back cs rest p.1 h)

pub plain_decimal : (n : ℕ) → n < 10000000000 → plain (decimal n) ≡ true
plain_decimal n h =
    ⊎_elim
    (λ z. ap plain (decimal_digit n (omega arith)) ∙ search (rules, nat_tests))
    (λ p. let f = first_decimal n (omega arith) (omega arith) in let l = decimal_nonempty n (omega arith) in grind (arith, nat_tests))
    (cases_lt n 1)

-- each number's text is read back
pub back_plain : (n : ℕ) (rest : List ℕ) → n < 10000000000 → is_ascii_digit (get_or rest 0 0) ≡ false
    → (front (decimal n ++ rest) ≡ decimal n) × (worth 0 (front (decimal n ++ rest)) ≡ n)
back_plain n rest h d =
    let f = front_back (decimal n) rest (digits_decimal own n (omega arith)) d in
    let v = digits_value-decimal own n (omega arith) in
    (f, ap (worth 0) f ∙ worth_is 0 (decimal n) (omega arith) ∙ v)

pub plain_from : (ds : List ℕ) (z : ℤ) (k : ℕ) → read_plain ds ≡ Some (z, k) → (plain ds ≡ true) × (z ≡ pos (worth 0 ds)) × (k ≡ length ds)
plain_from ds z k =
    elim (plain ds) as (λ b. plain ds ≡ b → ◌≡◌ {A = Option (ℤ × ℕ)} (cond b (Some (pos (worth 0 ds), length ds)) None) (Some (z, k)) → (plain ds ≡ true) × (z ≡ pos (worth 0 ds)) × (k ≡ length ds)) [
      | true ↦ (λ q e. (q, sym (ap (λ o. (unwrap_or {T = ℤ × ℕ} o (z, k)).0) e), sym (ap (λ o. (unwrap_or {T = ℤ × ℕ} o (z, k)).1) e)))
      | false ↦ (λ q e. let w : ◌≡◌ {A = ℕ} 0 1 = cc in absurd (omega arith))
    ] refl

abbrev pub minus : List ℕ → Bool
minus ds = plain ds && not (eqb (worth 0 ds) 0)

pub minus_from : (ds : List ℕ) (z : ℤ) (k : ℕ) → read_minus ds ≡ Some (z, k) → (minus ds ≡ true) × (z ≡ neg_ℤ (pos (worth 0 ds))) × (k ≡ length ds + 1)
minus_from ds z k =
    elim (minus ds) as (λ b. minus ds ≡ b → ◌≡◌ {A = Option (ℤ × ℕ)} (cond b (Some (neg_ℤ (pos (worth 0 ds)), length ds + 1)) None) (Some (z, k)) → (minus ds ≡ true) × (z ≡ neg_ℤ (pos (worth 0 ds))) × (k ≡ length ds + 1)) [
      | true ↦ (λ q e. (q, sym (ap (λ o. (unwrap_or {T = ℤ × ℕ} o (z, k)).0) e), sym (ap (λ o. (unwrap_or {T = ℤ × ℕ} o (z, k)).1) e)))
      | false ↦ (λ q e. let w : ◌≡◌ {A = ℕ} 0 1 = cc in absurd (omega arith))
    ] refl

pub neg_signed : (n : ℕ) → 0 < n → signed_decimal (neg_ℤ (pos n)) ≡ 45 ∷ decimal n
neg_signed zero h = absurd (omega arith)
neg_signed (suc n) h = refl

pub neg_abs : (n : ℕ) → nat_abs (neg_ℤ (pos n)) ≡ n
neg_abs zero = refl
neg_abs (suc n) = refl

pub begins : (s : List ℕ) → get_or s 0 0 ≡ 45 → s ≡ 45 ∷ drop 1 s
begins [] e = absurd (omega arith)
begins (c ∷ cs) e = ap (λ x. x ∷ cs) e

pub drop_one : (s : List ℕ) (k : ℕ) → drop k (drop 1 s) ≡ drop (k + 1) s
drop_one s k = drop-drop k 1 s ∙ ap (λ m. drop m s) (omega arith)

pub first_digit : (n : ℕ) → n < 10000000000 → 48 ≤ get_or (decimal n) 0 0
first_digit n h =
    ⊎_elim
    (λ z. omega (arith, ap (λ r. get_or r 0 0) (decimal_digit n (omega arith))))
    (λ p. omega (arith, first_decimal n (omega arith) (omega arith)))
    (cases_lt n 1)

pub no_minus : (n : ℕ) (rest : List ℕ) → n < 10000000000 → eqb (get_or (decimal n ++ rest) 0 0) 45 ≡ false
no_minus n rest h =
    ne_eqb _ _ (λ e. omega (arith, e, first_digit n h, get_or_append_left (decimal n) rest 0 0 (decimal_nonempty n (omega arith))))

pub minus_decimal : (n : ℕ) → suc n < 10000000000 → minus (decimal (suc n)) ≡ true
minus_decimal n h =
    let v = digits_value-decimal own (suc n) (omega arith) in
    let w = worth_is 0 (decimal (suc n)) (omega arith) in
    and_from _ _ (plain_decimal (suc n) h) (not_from_false _ (ne_eqb _ _ (λ e. omega arith)))

-- the two laws at signed numbers, in the words of `read_number`
pub only_number : (s : List ℕ) (z : ℤ) (k : ℕ) → read_number s ≡ Some (z, k) → nat_abs z < 10000000000 → s ≡ signed_decimal z ++ drop k s
only_number s z k e h =
    elim (eqb (get_or s 0 0) 45) as (λ b. eqb (get_or s 0 0) 45 ≡ b → cond b (read_minus (front (drop 1 s))) (read_plain (front s)) ≡ Some (z, k) → s ≡ signed_decimal z ++ drop k s) [
      | true ↦ (λ q f.
          let m = minus_from (front (drop 1 s)) z k f in
          let n = worth 0 (front (drop 1 s)) in
          let a = and_parts (plain (front (drop 1 s))) (not (eqb (worth 0 (front (drop 1 s))) 0)) m.0 in
          let l : n < 10000000000 = subst (λ x. x < 10000000000) (ap nat_abs m.1 ∙ neg_abs n) h in
          let t = only_plain (drop 1 s) a.0 l in
          let p : 0 < n = omega (arith, eqb-false n 0 (not-true _ a.1)) in
          begins s (eqb-true _ _ q) ∙ ap (λ r. 45 ∷ r) t
          ∙ ap (λ r. 45 ∷ (decimal n ++ r)) (drop_one s (length (front (drop 1 s))) ∙ ap (λ x. drop x s) (sym m.2))
          ∙ ap (λ x. x ++ drop k s) (sym (ap signed_decimal m.1 ∙ neg_signed n p)))
      | false ↦ (λ q f.
          let m = plain_from (front s) z k f in
          let l : worth 0 (front s) < 10000000000 = subst (λ x. x < 10000000000) (ap nat_abs m.1) h in
          only_plain s m.0 l ∙ ap (λ x. decimal (worth 0 (front s)) ++ drop x s) (sym m.2) ∙ ap (λ x. signed_decimal x ++ drop k s) (sym m.1))
    ] refl e

pub back_number : (z : ℤ) (rest : List ℕ) → nat_abs z < 10000000000 → is_ascii_digit (get_or rest 0 0) ≡ false → read_number (signed_decimal z ++ rest) ≡ Some (z, length (signed_decimal z))
back_number (pos n) rest h d =
    let b = back_plain n rest h d in
    ap (λ t. cond t (read_minus (front (drop 1 (decimal n ++ rest)))) (read_plain (front (decimal n ++ rest)))) (no_minus n rest h)
    ∙ ap read_plain b.0 ∙ ap (λ t. cond t (Some (pos (worth 0 (decimal n)), length (decimal n))) None) (plain_decimal n h)
    ∙ ap (λ m. Some (pos m, length (decimal n))) (sym (ap (worth 0) b.0) ∙ b.1)
back_number (negsuc n) rest h d =
    let b = back_plain (suc n) rest h d in
    ap read_minus b.0 ∙ ap (λ t. cond t (Some (neg_ℤ (pos (worth 0 (decimal (suc n)))), length (decimal (suc n)) + 1)) None) (minus_decimal n h)
    ∙ ap (λ m. Some (neg_ℤ (pos m), length (decimal (suc n)) + 1)) (sym (ap (worth 0) b.0) ∙ b.1)
    ∙ ap (λ m. Some (negsuc n, m)) (add-one (length (decimal (suc n))))

-- the two laws of a whole line
pub back_whole : (z : ℤ) → nat_abs z < 10000000000 → read_whole (signed_decimal z) ≡ Some z
back_whole z h =
    let e : read_number (signed_decimal z) ≡ Some (z, length (signed_decimal z)) = ap read_number (sym (append-nil (signed_decimal z))) ∙ back_number z [] h refl in
    ap (λ o. elim o [ None ↦ None | Some r ↦ cond (eqb r.1 (length (signed_decimal z))) (Some r.0) None ]) e
    ∙ ap (λ b. cond b (Some z) None) (eq-eqb _ _ refl)

pub only_whole : (l : List ℕ) (z : ℤ) → read_whole l ≡ Some z → nat_abs z < 10000000000 → l ≡ signed_decimal z
only_whole l z e h =
    elim (read_number l) as (λ o. read_number l ≡ o → ◌≡◌ {A = Option ℤ} (elim o [ None ↦ None | Some r ↦ cond (eqb r.1 (length l)) (Some r.0) None ]) (Some z) → l ≡ signed_decimal z) [
      | None ↦ (λ q f. let w : ◌≡◌ {A = ℕ} 0 1 = cc in absurd (omega arith))
      | Some r ↦ (λ q f.
          elim (eqb r.1 (length l)) as (λ b. eqb r.1 (length l) ≡ b → ◌≡◌ {A = Option ℤ} (cond b (Some r.0) None) (Some z) → l ≡ signed_decimal z) [
            | true ↦ (λ t g.
                let v : r.0 ≡ z = ap (λ o. unwrap_or o z) g in
                only_number l r.0 r.1 q (subst (λ x. nat_abs x < 10000000000) (sym v) h)
                ∙ ap (λ x. signed_decimal r.0 ++ x) (drop_all r.1 l (omega (arith, eqb-true r.1 (length l) t))) ∙ append-nil (signed_decimal r.0) ∙ ap signed_decimal v)
            | false ↦ (λ t g. let w : ◌≡◌ {A = ℕ} 0 1 = cc in absurd (omega arith))
          ] refl f)
    ] refl e
