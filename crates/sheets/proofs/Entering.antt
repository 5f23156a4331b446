-- One entry after those that are in.
use Rattle.std.proofs.Common.{◌≡◌, ℕ, ◌<◌, ◌≤◌, true, false, cond, leb, Some, None, Option, List, [], ◌∷◌, ◌++◌, length, take, ℤ, nat_abs, refl, ◌∙◌, arith, w16, w64, SFits, to_z, of_z}
use Rattle.std.proofs.lemmas.Int.{ints}
use Rattle.std.proofs.lemmas.List.{take_all, length_push}
use Rattle.std.proofs.lemmas.Bool.{le-leb, leb-true, leb-false, and_parts, and_from}
use Rattle.faults.specs.declared.fault.Refusal.{Refusal}
use Rattle.faults.specs.declared.fault.Refusal.TheVariants.{OutOfRange, TooManyEntries}
use Rattle.headings.specs.Heads.{capacity, in_range}
use Rattle.sheets.specs.Tables.{Table, entry_refusal}

-- an entry that there is room for is stored as it is
pub stored : (es new : List ℤ) (z : ℤ) → SFits w64 z → nat_abs z ≤ 32767 → length es < 288 → new ≡ take 288 (es ++ to_z w16 (of_z w16 (to_z w64 (of_z w64 z))) ∷ []) → new ≡ es ++ z ∷ []
stored es new z f a h e =
    let same : to_z w16 (of_z w16 (to_z w64 (of_z w64 z))) ≡ z = omega (arith, ints) in
    rw same at e ∙ take_all 288 (es ++ z ∷ []) (omega (arith, length_push es z))

pub range_push : (es : List ℤ) (z : ℤ) → in_range es ≡ true → nat_abs z ≤ 32767 → in_range (es ++ z ∷ []) ≡ true
range_push [] z h k = and_from (leb (nat_abs z) 32767) true (le-leb (nat_abs z) 32767 k) refl
range_push (y ∷ es) z h k = let p = and_parts (leb (nat_abs y) 32767) (in_range es) h in and_from (leb (nat_abs y) 32767) (in_range (es ++ z ∷ [])) p.0 (range_push es z p.1 k)

-- an entry that nothing refuses is wanted, and in its range
pub enters : (t : Table) (z : ℤ) → entry_refusal t z ≡ None → (length t.entries < capacity t.head) × (nat_abs z ≤ 32767)
enters t z e =
    elim (leb (capacity t.head) (length t.entries)) as (λ b. leb (capacity t.head) (length t.entries) ≡ b → ◌≡◌ {A = Option Refusal} (cond b (Some TooManyEntries) (cond (leb (nat_abs z) 32767) None (Some OutOfRange))) None → (length t.entries < capacity t.head) × (nat_abs z ≤ 32767)) [
      | true ↦ (λ q f. let w : ◌≡◌ {A = ℕ} 0 1 = cc in absurd (omega arith))
      | false ↦ (λ q. elim (leb (nat_abs z) 32767) as (λ b. leb (nat_abs z) 32767 ≡ b → ◌≡◌ {A = Option Refusal} (cond b None (Some OutOfRange)) None → (length t.entries < capacity t.head) × (nat_abs z ≤ 32767)) [
        | true ↦ (λ r f. (omega (arith, leb-false _ _ q), leb-true _ _ r))
        | false ↦ (λ r f. let w : ◌≡◌ {A = ℕ} 0 1 = cc in absurd (omega arith))
      ] refl)
    ] refl e
