-- A cycle keeps mills alike, is answered alike, and their sources match on along what comes.
use Rattle.std.proofs.Common.{◌≡◌, ℕ, Bool, true, false, cond, eqb, List, [], ◌∷◌, map, take, Some, None, Option, sym, refl, ap, ◌∙◌, subst}
use Rattle.faults.specs.declared.fault.Fault.{Fault}
use Rattle.source.specs.Meaning.{Rows, Meaning, past, after_of}
use Rattle.mill.specs.Mills.{Mill, seen, unless, stepped_all, output_of}
use Rattle.mill.specs.Calls.{result_of, cycle_refusal, cycled, outputs}
use Rattle.stacks.specs.StackLaws.{Matching}
use Rattle.stacks.specs.Runs.{Matched}
use Rattle.mills_law.specs.Pairs.{Shift}
use Rattle.mills_law.proofs.Likeness.{shifted_all, MillsLike}
use Rattle.mills_law.proofs.AllShifts.{all_shift, outputs_same}
use Rattle.mills_law.proofs.Feeding.{Has, refused_by, cycle_refused}

-- sources that match along rows match now
pub matched_now : (K : Shift) (e w : Meaning) (rs qs : Rows) → Matched K e w rs qs → Matching K (e []) (w [])
matched_now K e w [] [] h = h
matched_now K e w [] (q ∷ qs) h = absurd h
matched_now K e w (r ∷ rs) [] h = absurd h
matched_now K e w (r ∷ rs) (q ∷ qs) h = h.0

module _ (K : Shift) (e w : Mill) (r q : List ℕ) (rs qs : Rows) (h : MillsLike K e w) where
  -- by the refusals of both
  abbrev pub CycledAlike : Option Fault → Option Fault → Type 0
  CycledAlike o p =
      MillsLike K (unless o e (cycled r e)) (unless p w (cycled q w))
      × (result_of p (outputs q w) ≡ result_of o (outputs r e))
      × Matched K (unless o e (cycled r e)).means (unless p w (cycled q w)).means rs qs

  moved : Matching K (e.means (r ∷ [])) (w.means (q ∷ [])) → (cycled q w).motors ≡ shifted_all K 0 (cycled r e).motors
  moved t = ap (stepped_all (w.means (q ∷ [])) 0) h.motors ∙ all_shift K (e.means (r ∷ [])) (w.means (q ∷ [])) t 0 e.motors

  put_alike : Matching K (e.means (r ∷ [])) (w.means (q ∷ [])) → outputs q w ≡ outputs r e
  put_alike t = (λ i. map output_of (take (h.seen.axes i) (moved t i))) ∙ outputs_same K (seen e).axes 0 (cycled r e).motors

  taken : (o : Option Fault) → Matched K (after_of o e.means r) (after_of o w.means q) rs qs → CycledAlike o o
  taken None t =
      let n = matched_now K (past e.means r) (past w.means q) rs qs t in
      (record { seen = n; motors = moved n }, ap (result_of None) (put_alike n), t)
  taken (Some f) t = (h, refl, t)

  either : (b : Bool) → Matched K e.means w.means (cond b (r ∷ rs) rs) (cond b (q ∷ qs) qs)
      → CycledAlike (refused_by b ((seen e).refusal r)) (refused_by b ((seen w).refusal q))
  either true t =
      subst (λ (o : Option Fault). CycledAlike ((seen e).refusal r) o) (sym t.1)
      (taken ((seen e).refusal r) (subst (λ (o : Option Fault). Matched K (after_of ((seen e).refusal r) e.means r) (after_of o w.means q) rs qs) t.1 t.2))
  either false t = (h, refl, t)

  pub cycle_alike : (n k : ℕ) → Has n e.means → Has n w.means → Matched K e.means w.means (cond (eqb k n) (r ∷ rs) rs) (cond (eqb k n) (q ∷ qs) qs)
      → CycledAlike (cycle_refusal r k e) (cycle_refusal q k w)
  cycle_alike n k he hw t =
      subst (λ (o : Option Fault). CycledAlike o (cycle_refusal q k w)) (sym (cycle_refused n r k e he))
      (subst (λ (o : Option Fault). CycledAlike (refused_by (eqb k n) ((seen e).refusal r)) o) (sym (cycle_refused n q k w hw)) (either (eqb k n) t))
