-- A target that is brought to the largest number lies beyond the position limit, as it did before.
use Rattle.std.proofs.Common.{◌≡◌, ℕ, suc, ◌-◌, ◌^◌, min, Bool, true, false, ltb, ℤ, pos, negsuc, Some, None, Option, sym, refl, ap, ◌∙◌, arith}
use Rattle.std.specs.Int.{saturate_to_bits}
use Rattle.std.proofs.lemmas.Bool.{cond-true, lt-ltb, ltb-true, ltb-false}
use Rattle.faults.specs.declared.fault.Fault.{Fault}
use Rattle.faults.specs.declared.fault.Refusal.TheVariants.{OutOfRange}
use Rattle.source.specs.Meaning.{answer_of}
use Rattle.motor.specs.Motors.{sent}
use Rattle.mill.specs.Mills.{Mill, first, machine_fault, motor_at, unless, with_motor}
use Rattle.mill.specs.Calls.{absent, is_far, not_closed, target_refusal, targets}
use Rattle.mill.specs.Runs.{answer, next, done, target}
use Rattle.pair.specs.PairCalls.{ActsAlike}

same : (a : ℕ) (s t : ℤ) → s ≡ t → ActsAlike (target a s) (target a t)
same a s t e = record { said = λ m. ap (λ (z : ℤ). answer (target a z) m) e; left = λ m. ap (λ (z : ℤ). next (target a z) m) e }

stays : (o : Option Fault) (f : Fault) (m n : Mill) → unless (first o (Some f)) m n ≡ m
stays None f m n = refl
stays (Some g) f m n = refl

-- a target beyond the position limit is refused, and changes nothing
far_refused : (a : ℕ) (t : ℤ) (m : Mill) → is_far t ≡ true → target_refusal a t m ≡ first (absent a m) (Some (machine_fault OutOfRange a))
far_refused a t m h = ap (λ (o : Option Fault). first (absent a m) (first o (not_closed a m))) (cond-true _ _ _ h)

far_stays : (a : ℕ) (t : ℤ) (m : Mill) → is_far t ≡ true → targets a t m ≡ m
far_stays a t m h =
    let n = with_motor a (sent t (motor_at a m)) m in
    ap (λ (o : Option Fault). unless o m n) (far_refused a t m h) ∙ stays (absent a m) (machine_fault OutOfRange a) m n

far : (a : ℕ) (s t : ℤ) → is_far s ≡ true → is_far t ≡ true → ActsAlike (target a s) (target a t)
far a s t hs ht =
    record {
      said = λ m. ap (λ (o : Option Fault). done (answer_of o)) (far_refused a s m hs ∙ sym (far_refused a t m ht));
      left = λ m. far_stays a s m hs ∙ sym (far_stays a t m ht);
    }

above : (a n : ℕ) (b : Bool) → ltb (2 ^ 63 - 1) n ≡ b → ActsAlike (target a (pos (min n (2 ^ 63 - 1)))) (target a (pos n))
above a n true e =
    let l = ltb-true (2 ^ 63 - 1) n e in
    far a (pos (min n (2 ^ 63 - 1))) (pos n) (lt-ltb 1099511627776 (min n (2 ^ 63 - 1)) (omega arith)) (lt-ltb 1099511627776 n (omega arith))
above a n false e =
    let l = ltb-false (2 ^ 63 - 1) n e in
    let k : min n (2 ^ 63 - 1) ≡ n = omega arith in
    same a _ _ (ap pos k)

below : (a n : ℕ) (b : Bool) → ltb (2 ^ 63 - 1) n ≡ b → ActsAlike (target a (negsuc (min n (2 ^ 63 - 1)))) (target a (negsuc n))
below a n true e =
    let l = ltb-true (2 ^ 63 - 1) n e in
    far a (negsuc (min n (2 ^ 63 - 1))) (negsuc n) (lt-ltb 1099511627776 (suc (min n (2 ^ 63 - 1))) (omega arith)) (lt-ltb 1099511627776 (suc n) (omega arith))
below a n false e =
    let l = ltb-false (2 ^ 63 - 1) n e in
    let k : min n (2 ^ 63 - 1) ≡ n = omega arith in
    same a _ _ (ap negsuc k)

pub saturated_alike : (a : ℕ) (z : ℤ) → ActsAlike (target a (saturate_to_bits 63 z)) (target a z)
saturated_alike a (pos n) = above a n (ltb (2 ^ 63 - 1) n) refl
saturated_alike a (negsuc n) = below a n (ltb (2 ^ 63 - 1) n) refl
