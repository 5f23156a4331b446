-- A mill corrects by its tables; two that are set up alike correct alike.
use Rattle.std.proofs.Common.{◌≡◌, ℕ, zero, suc, Bool, true, false, cond, eqb, List, [], ◌∷◌, take, ◌-ℤ◌, sym, ap, ◌∙◌, subst}
use Rattle.source.specs.Meaning.{Seen, Rows, Meaning, Lawful, after}
use Rattle.mill.specs.Mills.{fresh_mill, seen}
use Rattle.mill.specs.Runs.{Command}
use Rattle.stacks.specs.Stack.{Layer, stacked, fitted, tables}
use Rattle.stacks.specs.StackLaws.{Corrected, Matching}
use Rattle.stacks.specs.Runs.{offered, Matched}
use Rattle.stacks.proofs.Stacking.{stack_axes}
use Rattle.stacks.proofs.Running.{runs_correct}
use Rattle.mills_law.specs.Moments.{mill_at, rows_of, rows_then, bottom_then, backlash_then}
use Rattle.mills_law.specs.Pairs.{Shift, PairCommand, set_gains, close, kill, target, switch, question, cycle, easts, wests}
use Rattle.mills_law.specs.Rest.{Corrects}
use Rattle.mills_law.proofs.Feeding.{Has, run_means}
use Rattle.mills_law.proofs.Cycles.{matched_now}

-- a stack has its bottom's axes
pub source_has : (s b : Meaning) (ls : List Layer) → Lawful s → s ≡ stacked ls b → Has (b []).axes s
source_has s b ls h e rs = h.axes rs ∙ ap (λ (m : Meaning). (m []).axes) e ∙ stack_axes ls b []

pub bottom_has : (s b : Meaning) (ls : List Layer) → Lawful s → s ≡ stacked ls b → Has (b []).axes b
bottom_has s b ls h e rs = sym (stack_axes ls b rs) ∙ ap (λ (m : Meaning). (m rs).axes) (sym e) ∙ source_has s b ls h e rs

-- what a mill sees at a moment is what the stack is by then
pub seen_then : (s b : Meaning) (ls : List Layer) (cs : List Command) (k : ℕ) → Lawful s → s ≡ stacked ls b → seen (mill_at s cs k) ≡ offered (stacked ls b) (rows_then b cs k) []
seen_then s b ls cs k h e =
    ap (λ (m : Meaning). m []) (run_means (b []).axes (take k cs) (fresh_mill s) (source_has s b ls h e))
    ∙ ap (λ (m : Meaning). offered m (rows_then b cs k) []) e

pub corrects : (s : Meaning) (cs : List Command) → Lawful s → Corrects s cs
corrects s cs h b ls e k a =
    subst (λ (u : Seen). Corrected (tables a (fitted ls b)) (bottom_then b cs k []) ((u.offset a -ℤ (bottom_then b cs k []).offset a) -ℤ backlash_then a ls b cs k)) (sym (seen_then s b ls cs k h e))
    (runs_correct ls b (rows_then b cs k) a)

-- sources that match along the rows of calls match at each moment
module _ (K : Shift) where
  abbrev MatchingBy : Rows → Rows → Meaning → Meaning → Type 0
  MatchingBy rs qs e w = Matching K (offered e rs []) (offered w qs [])

  by_cycle : (b : Bool) (r q : List ℕ) (rs qs us vs : Rows) → ((e w : Meaning) → Matched K e w rs qs → MatchingBy us vs e w)
      → (e w : Meaning) → Matched K e w (cond b (r ∷ rs) rs) (cond b (q ∷ qs) qs) → MatchingBy (cond b (r ∷ us) us) (cond b (q ∷ vs) vs) e w
  by_cycle true r q rs qs us vs f e w t = f (after e r) (after w q) t.2
  by_cycle false r q rs qs us vs f e w t = f e w t

  pub matched_then : (n : ℕ) (cs : List PairCommand) (k : ℕ) (e w : Meaning) → Matched K e w (rows_of n (easts cs)) (rows_of n (wests K cs))
      → MatchingBy (rows_of n (take k (easts cs))) (rows_of n (take k (wests K cs))) e w
  matched_then n cs zero e w t = matched_now K e w (rows_of n (easts cs)) (rows_of n (wests K cs)) t
  matched_then n [] (suc k) e w t = t
  matched_then n (set_gains a g ∷ cs) (suc k) e w t = matched_then n cs k e w t
  matched_then n (close a ∷ cs) (suc k) e w t = matched_then n cs k e w t
  matched_then n (kill a ∷ cs) (suc k) e w t = matched_then n cs k e w t
  matched_then n (target a x ∷ cs) (suc k) e w t = matched_then n cs k e w t
  matched_then n (switch a on ∷ cs) (suc k) e w t = matched_then n cs k e w t
  matched_then n (question a ∷ cs) (suc k) e w t = matched_then n cs k e w t
  matched_then n (cycle r q j ∷ cs) (suc k) e w t =
      by_cycle (eqb j n) r q (rows_of n (easts cs)) (rows_of n (wests K cs)) (rows_of n (take k (easts cs))) (rows_of n (take k (wests K cs)))
      (matched_then n cs k) e w t
