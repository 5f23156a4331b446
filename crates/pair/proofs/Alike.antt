-- Lists of calls that every mill takes alike.
use Rattle.std.proofs.Common.{◌≡◌, List, [], ◌∷◌, map, IfOk, Ok, Err, Option, Result, vec_items, Vec, refl, ap, ◌∙◌}
use Rattle.std.specs.List.{AllZip}
use Rattle.std.proofs.lemmas.Iterator.{IsCollectResult, YieldsList, items_from_drains}
use Rattle.mill.specs.declared.call.Call.{Call}
use Rattle.mill.specs.Asked.{command_of}
use Rattle.mill.specs.Mills.{Mill}
use Rattle.mill.specs.Runs.{Command, Reply, answer, next, answers, run}
use Rattle.mills_law.specs.Pairs.{PairCommand}
use Rattle.pair.specs.declared.pair_call.PairCall.{PairCall}
use Rattle.pair.specs.PairCalls.{ActsAlike, pair_of}

-- what a call does at every mill
pub acts : Command → Mill → Reply × Mill
acts c m = (answer c m, next c m)

pub acts_same : (c d : Command) → ActsAlike c d → acts c ≡ acts d
unfolding acts
acts_same c d h = λ i m. (h.said m i, h.left m i)

alike : (c d : Command) → acts c ≡ acts d → ActsAlike c d
unfolding acts
alike c d e = record { said = λ m i. (e i m).0; left = λ m i. (e i m).1 }

-- calls that do one by one what a side f is asked
all_alike : (f : PairCommand → Command) (asked : List Call) (calls : List PairCall) → map (λ x. acts (command_of x)) asked ≡ map (λ p. acts (f (pair_of p))) calls
    → AllZip ActsAlike (map command_of asked) (map f (map pair_of calls))
all_alike f [] [] e = tt
all_alike f [] (p ∷ ps) e = cc
all_alike f (x ∷ xs) [] e = cc
all_alike f (x ∷ xs) (p ∷ ps) e = (alike (command_of x) (f (pair_of p)) cc, all_alike f xs ps cc)

-- collected from a chain
pub all_collected : {S Z E : Type 0} {steps : S → Option Call → S → Type 0} {s : S} (f : PairCommand → Command) (calls : List PairCall) (r : Result (Vec Call Z) E)
    → IsCollectResult steps s r → YieldsList steps (λ x. acts (command_of x)) s (map (λ p. acts (f (pair_of p))) calls)
    → IfOk r (λ v. AllZip ActsAlike (map command_of (vec_items v)) (map f (map pair_of calls)))
all_collected f calls (Ok v) d y =
    all_alike f (vec_items v) calls (ap (map (λ x. acts (command_of x))) d.2.0 ∙ items_from_drains d.0 d.1 y)
all_collected f calls (Err e) d y = tt

-- what they are answered, and what they leave
pub answered_alike : (cs ds : List Command) (m : Mill) → AllZip ActsAlike cs ds → answers cs m ≡ answers ds m
answered_alike [] [] m h = refl
answered_alike [] (d ∷ ds) m h = absurd h
answered_alike (c ∷ cs) [] m h = absurd h
answered_alike (c ∷ cs) (d ∷ ds) m h = (λ i. h.0.said m i ∷ answers cs (h.0.left m i)) ∙ ap (λ rs. answer d m ∷ rs) (answered_alike cs ds (next d m) h.1)

pub left_alike : (cs ds : List Command) (m : Mill) → AllZip ActsAlike cs ds → run cs m ≡ run ds m
left_alike [] [] m h = refl
left_alike [] (d ∷ ds) m h = absurd h
left_alike (c ∷ cs) [] m h = absurd h
left_alike (c ∷ cs) (d ∷ ds) m h = ap (run cs) (h.0.left m) ∙ left_alike cs ds (next d m) h.1
