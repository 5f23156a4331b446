-- The laws of stacks along a run: rows are offered one after another, and a refused one changes nothing.
use Rattle.std.specs.Prelude.{◌≡◌, ℕ, List, [], ◌∷◌, ℤ, ◌-ℤ◌, Some, None, Option}
use Rattle.faults.specs.declared.fault.Fault.{Fault}
use Rattle.source.specs.Meaning.{Rows, Meaning, after}
use Rattle.stacks.specs.Stack.{Layer, stacked, fitted, tables, backlashes, backlash_sum}
use Rattle.stacks.specs.StackLaws.{Corrected, Reordered, AllFit, Matching, AllWhole, Steady}

-- what a source means once rows were offered to it
abbrev pub offered : Meaning → Rows → Meaning
offered m [] = m
offered m (r ∷ rs) = offered (after m r) rs

abbrev pub took : Option Fault → List ℕ → Rows → Rows
took None r rs = r ∷ rs
took (Some f) r rs = rs

-- those of them that it accepts
abbrev pub accepted : Meaning → Rows → Rows
accepted m [] = []
accepted m (r ∷ rs) = took ((m []).refusal r) r (accepted (after m r) rs)

-- at every moment of a run the tables correct by their exact sum, but for half a unit a table
abbrev pub RunsCorrect : Type 0
RunsCorrect = (ls : List Layer) (b : Meaning) (rs : Rows) (a : ℕ) →
    Corrected (tables a (fitted ls b)) (offered b rs [])
    (((offered (stacked ls b) rs []).offset a -ℤ (offered b rs []).offset a) -ℤ backlash_sum b (accepted b rs) (backlashes a (fitted ls b)))

-- the bottoms match at the start and after each row, and refuse the same rows with the same faults
abbrev pub Matched : (ℕ → ℤ) → Meaning → Meaning → Rows → Rows → Type 0
Matched K e w [] [] = Matching K (e []) (w [])
Matched K e w [] (q ∷ qs) = ⊥
Matched K e w (r ∷ rs) [] = ⊥
Matched K e w (r ∷ rs) (q ∷ qs) = Matching K (e []) (w []) × ((w []).refusal q ≡ (e []).refusal r) × Matched K (after e r) (after w q) rs qs

-- then so do stacks of the same layers in any order, where all fit
abbrev pub RunsMatch : Type 0
RunsMatch = (K : ℕ → ℤ) (ls ks : List Layer) (e w : Meaning) (rs qs : Rows) → Reordered ls ks → AllFit ls e → Steady e → AllWhole K ls → Matched K e w rs qs →
    Matched K (stacked ls e) (stacked ks w) rs qs
