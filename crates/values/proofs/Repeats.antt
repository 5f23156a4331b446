-- A value repeats with each span.
use Rattle.std.proofs.Common.{◌≡◌, ℕ, ◌+◌, ◌*◌, ◌/◌, ◌%◌, ◌≤◌, true, List, ℤ, pos, ◌+ℤ◌, nat_abs, ap, ◌∙◌, arith}
use Rattle.std.specs.Int.{int_rem_euclid}
use Rattle.rounding.specs.Round.{rounded}
use Rattle.rounding.proofs.Floors.{rem_more}
use Rattle.headings.specs.Heads.{Head, screw, plane}
use Rattle.sheets.specs.Tables.{head_fits}
use Rattle.values.specs.Values.{phase, vertex, corner, between, denominator, head_numerator}
use Rattle.values.specs.ValueLaws.{WholeMultiple, HeadSpans, ValueRepeats}
use Rattle.values.proofs.Ranges.{screw_span, plane_spans}

-- the numerators, by phases
by_phase : ℕ → List ℤ → ℕ → ℕ → ℤ
by_phase n vs l x = between l (x * n % l) (vertex n vs (x * n / l)) (vertex n vs (x * n / l + 1))

by_phases : ℕ → ℕ → List ℤ → ℕ → ℕ → ℕ → ℕ → ℤ
by_phases r c vs l k x y =
    between k (y * c % k)
    (between l (x * r % l) (corner c vs (x * r / l) (y * c / k)) (corner c vs (x * r / l + 1) (y * c / k)))
    (between l (x * r % l) (corner c vs (x * r / l) (y * c / k + 1)) (corner c vs (x * r / l + 1) (y * c / k + 1)))

phase_more : (l : ℕ) (p k : ℤ) → 1 ≤ l → WholeMultiple l k → phase l (p +ℤ k) ≡ phase l p
phase_more l p k h w =
    ap (λ (x : ℤ). nat_abs (int_rem_euclid (p +ℤ x) (pos l))) w.1 ∙ ap nat_abs (rem_more p w.0 l (omega arith))

exact_repeats : (h : Head) (vs : List ℤ) (p q k m : ℤ) → head_fits h ≡ true → HeadSpans h k m → head_numerator h vs (p +ℤ k) (q +ℤ m) ≡ head_numerator h vs p q
unfolding by_phase by_phases
exact_repeats (screw n s t c) vs p q k m f w = ap (by_phase n vs (16 * c)) (phase_more (16 * c) p k (screw_span n s t c f) w)
exact_repeats (plane r c s u t a b) vs p q k m f w =
    let e = plane_spans r c s u t a b f in
    ap (λ (x : ℕ). by_phases r c vs (16 * a) (16 * b) x (phase (16 * b) (q +ℤ m))) (phase_more (16 * a) p k e.0 w.0)
    ∙ ap (λ (y : ℕ). by_phases r c vs (16 * a) (16 * b) (phase (16 * a) p) y) (phase_more (16 * b) q m e.1 w.1)

pub value_repeats : ValueRepeats
value_repeats t p q k m h w =
    let e = exact_repeats t.head t.entries p q k m h.heading w in
    (e, ap (λ (n : ℤ). rounded n (pos (denominator t))) e)
