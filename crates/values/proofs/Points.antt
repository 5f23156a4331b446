-- On a point the value is its entry.
use Rattle.std.proofs.Common.{◌≡◌, ℕ, ◌*◌, ◌≤◌, List, ℤ, pos, ◌*ℤ◌, ap, ◌∙◌, mul_comm, arith}
use Rattle.std.proofs.lemmas.Int.{ints}
use Rattle.rounding.specs.Round.{rounded}
use Rattle.rounding.proofs.RoundingLaws as laws
use Rattle.rounding.proofs.Sums.{regroup}
use Rattle.headings.specs.Heads.{Head, screw, plane}
use Rattle.values.specs.Values.{place, part, corner, between, denominator, point, head_numerator, head_denominator, head_point, HeadOnPoint}
use Rattle.values.specs.ValueLaws.{ValueOnPoints}
use Rattle.values.proofs.Between.{between_start}
use Rattle.values.proofs.Ranges.{positive}

-- no part of the way
at_start : (l f : ℕ) (v w : ℤ) → f ≡ 0 → between l f v w ≡ pos l *ℤ v
at_start l f v w e = ap (λ (x : ℕ). between l x v w) e ∙ between_start l v w

exact_on_point : (h : Head) (vs : List ℤ) (p q : ℤ) → HeadOnPoint h p q → head_numerator h vs p q ≡ pos (head_denominator h) *ℤ head_point h vs p q
exact_on_point (screw n s t c) vs p q e = at_start (16 * c) (part n (16 * c) p) _ _ e
exact_on_point (plane r c s u t a b) vs p q e =
    let l = 16 * a in
    let k = 16 * b in
    let v = corner c vs (place r l p) (place c k q) in
    at_start k (part c k q) _ _ e.1 ∙ ap (λ (x : ℤ). pos k *ℤ x) (at_start l (part r l p) _ _ e.0)
    ∙ regroup k l v ∙ ap (λ (x : ℕ). pos x *ℤ v) (mul_comm k l)

pub value_on_points : ValueOnPoints
value_on_points t p q h e =
    let x = exact_on_point t.head t.entries p q e in
    let d : 1 ≤ denominator t = positive t.head h.heading in
    record {
      exact = x;
      entry = ap (λ (n : ℤ). rounded n (pos (denominator t))) x ∙ laws.whole (point t p q) (pos (denominator t)) (omega (arith, ints));
    }
