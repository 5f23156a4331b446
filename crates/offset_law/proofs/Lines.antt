-- Each line has its report.
use Rattle.std.proofs.Common.{◌≡◌, ℕ, suc, ◌+◌, List, [], ◌∷◌, map, length, ℤ, Some, None, Ok, Err, Option, Result, sym, refl, ap, ◌∙◌, zero-add, arith}
use Rattle.faults.specs.Faults.{at_line}
use Rattle.faults.specs.declared.fault.Fault.{Fault}
use Rattle.faults.specs.declared.fault.Refusal.{Refusal}
use Rattle.source.specs.Meaning.{Seen, Meaning, bare_answer, offset_answer, after}
use Rattle.offset_report.specs.Inputs.{reading_of}
use Rattle.offset_report.specs.Readings.{seen_at, offered_at, said_at, after_reading, follow}
use Rattle.offset_law.specs.OffsetLaws.{line_of, numbered, left_over, LinesReported}

asked_line : (k : ℕ) (b o : Result ℤ Fault) → line_of (elim b [ Err f ↦ Err (at_line k f) | Ok p ↦ elim o [ Err f ↦ Err (at_line k f) | Ok z ↦ Ok (record { line = k; bare = p; offset = z }) ] ]) ≡ Some k
asked_line k (Err f) o = refl
asked_line k (Ok p) (Err f) = refl
asked_line k (Ok p) (Ok z) = refl

seen_line : (k : ℕ) (s : Seen) → line_of (seen_at k s) ≡ Some k
seen_line k s = asked_line k (bare_answer s 0) (offset_answer s 0)

offered_line : (k : ℕ) (o : Option Fault) (s : Seen) → line_of (offered_at k o s) ≡ Some k
offered_line k None s = seen_line k s
offered_line k (Some f) s = refl

said_line : (k : ℕ) (m : Meaning) (r : Result ℕ Refusal) → line_of (said_at k m r) ≡ Some k
said_line k m (Err q) = refl
said_line k m (Ok x) = offered_line k ((m []).refusal (x ∷ [])) (after m (x ∷ []) [])

end_line : (m : Meaning) (k : ℕ) (left : List ℕ) → map line_of (follow m k [] left) ≡ numbered k (left_over left)
end_line m k [] = refl
end_line m k (c ∷ cs) = refl

more : (n j : ℕ) → suc n + j ≡ suc (n + j)
more n j = omega arith

pub lines_reported : LinesReported
lines_reported m k [] left = end_line m k left ∙ ap (numbered k) (sym (zero-add (left_over left)))
lines_reported m k (l ∷ ls) left =
    ap (λ (x : Option ℕ). x ∷ map line_of (follow (after_reading m (reading_of l)) (k + 1) ls left)) (said_line k m (reading_of l))
    ∙ ap (λ (xs : List (Option ℕ)). Some k ∷ xs) (lines_reported (after_reading m (reading_of l)) (k + 1) ls left) ∙ ap (numbered k) (sym (more (length ls) (left_over left)))
