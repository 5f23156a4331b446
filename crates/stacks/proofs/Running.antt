-- Stacks along a run.
use Rattle.std.proofs.Common.{◌≡◌, ℕ, List, [], ◌∷◌, ◌++◌, ℤ, ◌-ℤ◌, Some, None, Option, sym, refl, ap, ◌∙◌, subst}
use Rattle.faults.specs.declared.fault.Fault.{Fault}
use Rattle.source.specs.Meaning.{Seen, Rows, Meaning, after, after_of}
use Rattle.stacks.specs.Stack.{Layer, stacked, fitted, tables, backlashes, backlash_sum}
use Rattle.stacks.specs.StackLaws.{Corrected, Matching, Along}
use Rattle.stacks.specs.Runs.{offered, took, accepted, RunsCorrect, Matched, RunsMatch}
use Rattle.stacks.proofs.Fractions.{stacks_correct}
use Rattle.stacks.proofs.Matches.{stacks_reorder}
use Rattle.stacks.proofs.Stacking.{stack_refusal}

-- after rows were offered stands what stands after the accepted ones
step_of : (o : Option Fault) (m : Meaning) (r : List ℕ) (rs qs : Rows) → after_of o m r (rs ++ qs) ≡ m (took o r rs ++ qs)
step_of None m r rs qs = refl
step_of (Some f) m r rs qs = refl

pub offered_at : (m : Meaning) (rs qs : Rows) → offered m rs qs ≡ m (accepted m rs ++ qs)
offered_at m [] qs = refl
offered_at m (r ∷ rs) qs = offered_at (after m r) rs qs ∙ step_of ((m []).refusal r) m r (accepted (after m r) rs) qs

no_more : (rs : Rows) → rs ++ [] ≡ rs
no_more [] = refl
no_more (r ∷ rs) = ap (λ (qs : Rows). r ∷ qs) (no_more rs)

pub offered_now : (m : Meaning) (rs : Rows) → offered m rs [] ≡ m (accepted m rs)
offered_now m rs = offered_at m rs [] ∙ ap m (no_more (accepted m rs))

-- sources that refuse alike accept alike
abbrev Alike : Meaning → Meaning → Type 0
Alike m n = (qs : Rows) → (m qs).refusal ≡ (n qs).refusal

alike_after : (o : Option Fault) (m n : Meaning) (r : List ℕ) → Alike m n → Alike (after_of o m r) (after_of o n r)
alike_after None m n r h qs = h (r ∷ qs)
alike_after (Some f) m n r h qs = h qs

accepted_same : (m n : Meaning) (rs : Rows) → Alike m n → accepted m rs ≡ accepted n rs
accepted_same m n [] h = refl
accepted_same m n (r ∷ rs) h =
    let e : (m []).refusal r ≡ (n []).refusal r = ap (λ (f : List ℕ → Option Fault). f r) (h []) in
    ap (λ (o : Option Fault). took o r (accepted (after_of o m r) rs)) e
    ∙ ap (λ (ps : Rows). took ((n []).refusal r) r ps) (accepted_same (after_of ((n []).refusal r) m r) (after n r) rs (alike_after ((n []).refusal r) m n r h))

pub stack_accepted : (ls : List Layer) (b : Meaning) (rs : Rows) → accepted (stacked ls b) rs ≡ accepted b rs
stack_accepted ls b rs = accepted_same (stacked ls b) b rs (stack_refusal ls b)

pub stack_now : (ls : List Layer) (b : Meaning) (rs : Rows) → offered (stacked ls b) rs [] ≡ stacked ls b (accepted b rs)
stack_now ls b rs = offered_now (stacked ls b) rs ∙ ap (stacked ls b) (stack_accepted ls b rs)

pub runs_correct : RunsCorrect
runs_correct ls b rs a =
    let ts = tables a (fitted ls b) in
    let ps = backlash_sum b (accepted b rs) (backlashes a (fitted ls b)) in
    let e = offered_now b rs in
    let f = stack_now ls b rs in
    subst (λ (s : Seen). Corrected ts s (((offered (stacked ls b) rs []).offset a -ℤ s.offset a) -ℤ ps)) (sym e)
    (subst (λ (s : Seen). Corrected ts (b (accepted b rs)) ((s.offset a -ℤ (b (accepted b rs)).offset a) -ℤ ps)) (sym f)
    (stacks_correct ls b (accepted b rs) a))

module _ (K : ℕ → ℤ) where
  -- M over e and N over w match wherever e and w do
  abbrev Over : Meaning → Meaning → Meaning → Meaning → Type 0
  Over M N e w = (ps ss : Rows) → Along K e w ps ss → Matching K (M ps) (N ss)

  over_after : (o : Option Fault) (M N e w : Meaning) (r q : List ℕ) → Matching K (e []) (w []) → (w []).refusal q ≡ (e []).refusal r
      → Over M N e w → Over (after_of o M r) (after_of o N q) (after_of o e r) (after_of o w q)
  over_after None M N e w r q m c f ps ss h = f (r ∷ ps) (q ∷ ss) (m, c, h)
  over_after (Some g) M N e w r q m c f ps ss h = f ps ss h

  matched_over : (M N e w : Meaning) (rs qs : Rows) → Alike M e → Alike N w → Over M N e w → Matched K e w rs qs → Matched K M N rs qs
  matched_over M N e w [] [] a b f h = f [] [] h
  matched_over M N e w [] (q ∷ qs) a b f h = absurd h
  matched_over M N e w (r ∷ rs) [] a b f h = absurd h
  matched_over M N e w (r ∷ rs) (q ∷ qs) a b f h =
      let o = (e []).refusal r in
      let x : (M []).refusal r ≡ (e []).refusal r = ap (λ (g : List ℕ → Option Fault). g r) (a []) in
      let y : (N []).refusal q ≡ (w []).refusal q = ap (λ (g : List ℕ → Option Fault). g q) (b []) in
      let z : (w []).refusal q ≡ (e []).refusal r = h.1 in
      let i = subst (λ (p : Option Fault). Matched K (after e r) (after_of p w q) rs qs) z h.2 in
      let j = matched_over (after_of o M r) (after_of o N q) (after e r) (after_of o w q) rs qs (alike_after o M e r a) (alike_after o N w q b) (over_after o M N e w r q h.0 z f) i in (
        f [] [] h.0,
        y ∙ z ∙ sym x,
        subst (λ (p : Option Fault). Matched K (after_of p M r) (after N q) rs qs) (sym x)
            (subst (λ (p : Option Fault). Matched K (after_of o M r) (after_of p N q) rs qs) (sym (y ∙ z)) j),
      )

pub runs_match : RunsMatch
runs_match K ls ks e w rs qs p fe c u h =
    matched_over K (stacked ls e) (stacked ks w) e w rs qs (stack_refusal ls e) (stack_refusal ks w)
    (λ ps ss g. (stacks_reorder K ls ks e w ps ss p fe c u g).1) h
