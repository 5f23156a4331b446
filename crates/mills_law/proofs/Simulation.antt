-- Mills that are alike answer alike, for every list of calls along which their sources match.
use Rattle.std.proofs.Common.{ℕ, List, [], ◌∷◌, ◌+ℤ◌, Some, None, Option, sym, ap, ◌∙◌}
use Rattle.faults.specs.declared.fault.Fault.{Fault}
use Rattle.source.specs.Meaning.{Rows, answer_of}
use Rattle.motor.specs.Motors.{MotorView}
use Rattle.mill.specs.Mills.{Mill, with_motor, unless}
use Rattle.mill.specs.Calls.{absent, gains_refusal, close_refusal, target_refusal}
use Rattle.mill.specs.Runs.{answer, next, answers}
use Rattle.stacks.specs.Runs.{Matched}
use Rattle.mills_law.specs.Moments.{rows_of}
use Rattle.mills_law.specs.Pairs.{Shift, PairCommand, set_gains, close, kill, target, switch, question, cycle, east_of, west_of, easts, wests, AllNear}
use Rattle.mills_law.specs.Same.{Agree, AllAgree}
use Rattle.mills_law.proofs.Likeness.{MillsLike}
use Rattle.mills_law.proofs.Feeding.{Has, next_has}
use Rattle.mills_law.proofs.Steps.{absent_like, kill_like, close_refused, close_like, target_refused, target_like, switch_like, gains_refused, gains_like, question_told}
use Rattle.mills_law.proofs.Cycles.{cycle_alike}

-- a call of one axis leaves the sources as they are
unfed : (K : Shift) (e w : Mill) (o p : Option Fault) (a : ℕ) (x y : MotorView) (rs qs : Rows) → Matched K e.means w.means rs qs
    → Matched K (unless o e (with_motor a x e)).means (unless p w (with_motor a y w)).means rs qs
unfed K e w None None a x y rs qs t = t
unfed K e w None (Some g) a x y rs qs t = t
unfed K e w (Some f) None a x y rs qs t = t
unfed K e w (Some f) (Some g) a x y rs qs t = t

abbrev Agreeing : Shift → ℕ → List PairCommand → Type 0
Agreeing K n cs = (e w : Mill) → MillsLike K e w → Has n e.means → Has n w.means
    → Matched K e.means w.means (rows_of n (easts cs)) (rows_of n (wests K cs)) → AllNear K cs → AllAgree (answers (easts cs) e) (answers (wests K cs) w)

module _ (K : Shift) (n : ℕ) (c : PairCommand) (cs : List PairCommand) (f : Agreeing K n cs) (e w : Mill) (he : Has n e.means) (hw : Has n w.means) (near : AllNear K cs) where
  joined : Agree (answer (east_of c) e) (answer (west_of K c) w) → MillsLike K (next (east_of c) e) (next (west_of K c) w)
      → Matched K (next (east_of c) e).means (next (west_of K c) w).means (rows_of n (easts cs)) (rows_of n (wests K cs))
      → AllAgree (answers (easts (c ∷ cs)) e) (answers (wests K (c ∷ cs)) w)
  joined a l t =
      (a, f (next (east_of c) e) (next (west_of K c) w) l (next_has n (east_of c) e he) (next_has n (west_of K c) w hw) t near)

pub answers_agree : (K : Shift) (n : ℕ) (cs : List PairCommand) → Agreeing K n cs
answers_agree K n [] e w h he hw t near = tt
answers_agree K n (set_gains a g ∷ cs) e w h he hw t near =
    joined K n (set_gains a g) cs (answers_agree K n cs) e w he hw near.1 (ap answer_of (gains_refused K e w h a g)) (gains_like K e w h a g)
    (unfed K e w (gains_refusal a g e) (gains_refusal a g w) a _ _ (rows_of n (easts cs)) (rows_of n (wests K cs)) t)
answers_agree K n (close a ∷ cs) e w h he hw t near =
    joined K n (close a) cs (answers_agree K n cs) e w he hw near.1 (ap answer_of (close_refused K e w h a)) (close_like K e w h a)
    (unfed K e w (close_refusal a e) (close_refusal a w) a _ _ (rows_of n (easts cs)) (rows_of n (wests K cs)) t)
answers_agree K n (kill a ∷ cs) e w h he hw t near =
    joined K n (kill a) cs (answers_agree K n cs) e w he hw near.1 (ap answer_of (absent_like K e w h a)) (kill_like K e w h a)
    (unfed K e w (absent a e) (absent a w) a _ _ (rows_of n (easts cs)) (rows_of n (wests K cs)) t)
answers_agree K n (target a x ∷ cs) e w h he hw t near =
    let f = near.0.1 ∙ sym near.0.0 in
    joined K n (target a x) cs (answers_agree K n cs) e w he hw near.1 (ap answer_of (target_refused K e w h a x f)) (target_like K e w h a x f)
    (unfed K e w (target_refusal a x e) (target_refusal a (x +ℤ K a) w) a _ _ (rows_of n (easts cs)) (rows_of n (wests K cs)) t)
answers_agree K n (switch a on ∷ cs) e w h he hw t near =
    joined K n (switch a on) cs (answers_agree K n cs) e w he hw near.1 (ap answer_of (absent_like K e w h a)) (switch_like K e w h a on)
    (unfed K e w (absent a e) (absent a w) a _ _ (rows_of n (easts cs)) (rows_of n (wests K cs)) t)
answers_agree K n (question a ∷ cs) e w h he hw t near =
    joined K n (question a) cs (answers_agree K n cs) e w he hw near.1 (question_told K e w h a) h t
answers_agree K n (cycle r q k ∷ cs) e w h he hw t near =
    let p = cycle_alike K e w r q (rows_of n (easts cs)) (rows_of n (wests K cs)) h n k he hw t in
    joined K n (cycle r q k) cs (answers_agree K n cs) e w he hw near.1 p.1 p.0 p.2
