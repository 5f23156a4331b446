-- The laws of banks.
use Rattle.std.proofs.Common.{◌≡◌, ℕ, ◌+◌, eqb, List, [], ◌∷◌, length, get_or, ℤ, pos, ◌+ℤ◌, ◌-ℤ◌, ◌≤ℤ◌, ◌<ℤ◌, Some, None, Option, sym, refl, ap, ◌∙◌, subst, ⊎_elim, arith, eqb-true}
use lib.Signed.{lt_z}
use Rattle.std.proofs.lemmas.Int.{ints}
use Rattle.std.proofs.lemmas.Bool.{cond_both, cond-false, cases_Bool}
use Rattle.std.specs.Int.{int_div_euclid, int_rem_euclid}
use Rattle.faults.specs.declared.fault.Fault.{Fault}
use Rattle.faults.specs.declared.fault.Refusal.TheVariants.{WrongLength}
use Rattle.rounding.specs.Bounds.{Within}
use Rattle.rounding.proofs.RoundingLaws.{remainders}
use Rattle.gauges.specs.Gauges.{turn, centred, travel, place, moved, reading_refusal}
use Rattle.gauges.specs.declared.gauge.Axis.{Axis}
use Rattle.gauges.specs.declared.gauge.Gauge.{Gauge}
use Rattle.gauges.specs.declared.gauge.Gauge.TheVariants.{Encoder, Scale}
use Rattle.banks.specs.Axes.{axis_at}
use Rattle.banks.specs.Bank.{first_bad, row_bad, placed, length_refusal, unless, standing, bank_seen}
use Rattle.banks.specs.BankLaws.{Shorter, TurnsShortest, TurnsOnly, Goes, AcceptedMoves, RefusedStays, BankLaws}
use Rattle.banks.specs.BankProofs.{some_none, refused_none, reading_good, all_good, overlaid_at, standing_near}

-- the centre of a residue: itself, or a turn less
centred_is : (P : ℤ → Type 0) (m : ℤ) → (m <ℤ pos 8388608 → P m) → (pos 8388608 ≤ℤ m → P (m -ℤ pos 16777216)) → P (centred m)
centred_is P m low high =
    cond_both (lt_z m (pos 8388608)) m (m -ℤ pos 16777216) P (λ e. low (grind (arith, ints))) (λ e. high (grind (arith, ints)))

shortest : TurnsShortest
shortest from to =
    let z : ℤ = pos to -ℤ pos from in
    let r = remainders z 16777216 (omega arith) in
    let rest = r.rest in
    centred_is (Shorter from to) (int_rem_euclid z (pos 16777216))
    (λ h. record { turns = int_div_euclid z (pos 16777216); leads = omega (arith, ints); low = omega (arith, ints); high = omega (arith, ints) })
    (λ h. record { turns = int_div_euclid z (pos 16777216) +ℤ pos 1; leads = omega (arith, ints); low = omega (arith, ints); high = omega (arith, ints) })

-- two such ways differ by whole turns, and by less than one
one_way : (from to : ℕ) (m k : ℤ) → Shorter from to m → Shorter from to k → m ≡ k
one_way from to m k s t = omega (arith, ints)

only : TurnsOnly
only from to m s = one_way from to m (turn to from) s (shortest from to)

same_length : (n : ℕ) (row : List ℕ) → length_refusal n row ≡ None → length row ≡ n
same_length n row e =
    ⊎_elim (λ h. eqb-true (length row) n h) (λ h. some_none WrongLength (sym (cond-false (eqb (length row) n) None (Some WrongLength) h) ∙ e)) (cases_Bool (eqb (length row) n))

goes : (g : Gauge) (most : ℕ) (a : Axis) (x : ℕ) → Within most (travel g a x) → Goes g most a.last a.position x (place g a x)
goes Encoder most a x h = (refl, h)
goes Scale most a x h = (refl, h)

accepted : AcceptedMoves
accepted g n most held row few e a lt =
    let x = get_or row a 0 in
    let q = refused_none (length_refusal n row) (first_bad (row_bad g most held) 0 row) e in
    let len : length row ≡ n = same_length n row q.0 in
    let same : 0 + a ≡ a = omega arith in
    let good : reading_refusal g most (axis_at held a) (get_or row a 0) ≡ None = rw same at (all_good (row_bad g most held) 0 row a q.1 (omega arith)) in
    let to : axis_at (standing g n most held (row ∷ [])) a ≡ moved g (axis_at held a) (get_or row a 0) =
    ap (λ (o : Option Fault). axis_at (unless o held (placed g held row)) a) e ∙ overlaid_at (moved g) held row a (omega arith) (omega arith) in
    record {
      goes = subst (Goes g most (axis_at held a).last (axis_at held a).position (get_or row a 0)) (ap (λ (b : Axis). b.position) (sym to))
          (goes g most (axis_at held a) (get_or row a 0) (reading_good g most (axis_at held a) (get_or row a 0) good).1);
      reads = ap (λ (b : Axis). b.last) to;
    }

refused : RefusedStays
refused g n most held row f e rs = ap (λ (o : Option Fault). bank_seen g n most (standing g n most (unless o held (placed g held row)) rs)) e

pub lawful : BankLaws
lawful = record { shortest = shortest; only = only; accepted = accepted; refused = refused; near = λ g n most held near rs a. standing_near g n most held rs near a }
