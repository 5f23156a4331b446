-- A mill's source is what it means once the rows of its cycles were offered to it.
use Rattle.std.proofs.Common.{◌≡◌, ℕ, Bool, true, false, cond, eqb, List, [], ◌∷◌, Some, None, Option, refl, ap, ◌∙◌}
use Rattle.faults.specs.declared.fault.Fault.{Fault}
use Rattle.faults.specs.declared.fault.Part.TheVariants.{Machine}
use Rattle.faults.specs.declared.fault.Refusal.TheVariants.{WrongLength}
use Rattle.faults.specs.Faults.{fault_of}
use Rattle.source.specs.Meaning.{Rows, Meaning, after, after_of}
use Rattle.motor.specs.Motors.{MotorView}
use Rattle.mill.specs.Mills.{Mill, seen, with_motor, first, unless}
use Rattle.mill.specs.Calls.{absent, gains_refusal, close_refusal, target_refusal, cycle_refusal, cycled, cycles}
use Rattle.mill.specs.Runs.{Command, set_gains, close, kill, target, switch, question, cycle, next, run}
use Rattle.stacks.specs.Runs.{offered}
use Rattle.mills_law.specs.Moments.{rows_of}
use Rattle.mills_law.proofs.Keeping.{next_keeps, run_keeps}

-- a source of n axes, now and always
abbrev pub Has : ℕ → Meaning → Type 0
Has n m = (rs : Rows) → (m rs).axes ≡ n

pub after_has : (n : ℕ) (o : Option Fault) (m : Meaning) (r : List ℕ) → Has n m → Has n (after_of o m r)
after_has n None m r h rs = h (r ∷ rs)
after_has n (Some f) m r h rs = h rs

pub offered_has : (n : ℕ) (m : Meaning) (rs : Rows) → Has n m → Has n (offered m rs)
offered_has n m [] h = h
offered_has n m (r ∷ rs) h = offered_has n (after m r) rs (after_has n ((m []).refusal r) m r h)

-- the refusal of a cycle, by whether the lent row has the right length and by what the source says of the readings
abbrev pub refused_by : Bool → Option Fault → Option Fault
refused_by b o = first (cond b None (Some (fault_of Machine WrongLength))) o

pub cycle_refused : (n : ℕ) (r : List ℕ) (k : ℕ) (m : Mill) → Has n m.means → cycle_refusal r k m ≡ refused_by (eqb k n) ((seen m).refusal r)
cycle_refused n r k m h = ap (λ (j : ℕ). refused_by (eqb k j) ((seen m).refusal r)) (h [])

-- no call of one axis feeds the source
kept : (o : Option Fault) (a : ℕ) (v : MotorView) (m : Mill) → (unless o m (with_motor a v m)).means ≡ m.means
kept None a v m = refl
kept (Some f) a v m = refl

fed_in : (b : Bool) (o : Option Fault) (r : List ℕ) (m : Mill) → (unless (refused_by b o) m (cycled r m)).means ≡ cond b (after_of o m.means r) m.means
fed_in true None r m = refl
fed_in true (Some f) r m = refl
fed_in false o r m = refl

fed : (n : ℕ) (r : List ℕ) (k : ℕ) (m : Mill) → Has n m.means → (cycles r k m).means ≡ cond (eqb k n) (after m.means r) m.means
fed n r k m h =
    ap (λ (o : Option Fault). (unless o m (cycled r m)).means) (cycle_refused n r k m h) ∙ fed_in (eqb k n) ((seen m).refusal r) r m

-- the number of axes stays
pub next_has : (n : ℕ) (c : Command) (m : Mill) → Has n m.means → Has n (next c m).means
next_has n c m h = next_keeps (λ k. Has n k.means) m h (λ a v. h) (λ r rs. h (r ∷ rs)) c

pub run_has : (n : ℕ) (cs : List Command) (m : Mill) → Has n m.means → Has n (run cs m).means
run_has n = run_keeps (λ k. Has n k.means) (next_has n)

offered_in : (b : Bool) (m : Meaning) (r : List ℕ) (rs : Rows) → offered (cond b (after m r) m) rs ≡ offered m (cond b (r ∷ rs) rs)
offered_in true m r rs = refl
offered_in false m r rs = refl

pub run_means : (n : ℕ) (cs : List Command) (m : Mill) → Has n m.means → (run cs m).means ≡ offered m.means (rows_of n cs)
run_means n [] m h = refl
run_means n (set_gains a g ∷ cs) m h =
    run_means n cs (next (set_gains a g) m) (next_has n (set_gains a g) m h) ∙ ap (λ (s : Meaning). offered s (rows_of n cs)) (kept (gains_refusal a g m) a _ m)
run_means n (close a ∷ cs) m h =
    run_means n cs (next (close a) m) (next_has n (close a) m h) ∙ ap (λ (s : Meaning). offered s (rows_of n cs)) (kept (close_refusal a m) a _ m)
run_means n (kill a ∷ cs) m h =
    run_means n cs (next (kill a) m) (next_has n (kill a) m h) ∙ ap (λ (s : Meaning). offered s (rows_of n cs)) (kept (absent a m) a _ m)
run_means n (target a t ∷ cs) m h =
    run_means n cs (next (target a t) m) (next_has n (target a t) m h) ∙ ap (λ (s : Meaning). offered s (rows_of n cs)) (kept (target_refusal a t m) a _ m)
run_means n (switch a on ∷ cs) m h =
    run_means n cs (next (switch a on) m) (next_has n (switch a on) m h) ∙ ap (λ (s : Meaning). offered s (rows_of n cs)) (kept (absent a m) a _ m)
run_means n (question a ∷ cs) m h = run_means n cs m h
run_means n (cycle r k ∷ cs) m h =
    run_means n cs (next (cycle r k) m) (next_has n (cycle r k) m h)
    ∙ ap (λ (s : Meaning). offered s (rows_of n cs)) (fed n r k m h)
    ∙ offered_in (eqb k n) m.means r (rows_of n cs)
