-- The calls of one axis keep mills alike, and are answered alike.
use Rattle.std.proofs.Common.{◌≡◌, ℕ, ◌+◌, ◌<◌, Bool, cond, ltb, List, get_or, set, ℤ, ◌+ℤ◌, Some, None, Option, sym, refl, ap, ◌∙◌, subst, arith}
use Rattle.faults.specs.declared.fault.Fault.{Fault}
use Rattle.faults.specs.declared.fault.Refusal.TheVariants.{OutOfRange, NoSuchAxis, AxisClosed, AxisNotClosed}
use Rattle.servo.specs.declared.settings.GainSettings.{GainSettings}
use Rattle.motor.specs.declared.state.State.TheVariants.{Killed}
use Rattle.motor.specs.States.{is_closed}
use Rattle.motor.specs.Motors.{MotorView, fresh, stopped, closed_at, given, sent, switched, following_error}
use Rattle.mill.specs.declared.report.Report.{Report}
use Rattle.mill.specs.Mills.{Mill, seen, motor_at, with_motor, position, position_at, machine_fault, first, unless}
use Rattle.mill.specs.Calls.{absent, closed, not_closed, unfit, is_far, too_far, gains_refusal, gains_set, close_refusal, closes, kills, target_refusal, targets, switches, report, result_of, question_answer}
use Rattle.mills_law.specs.Pairs.{Shift}
use Rattle.mills_law.specs.Same.{Alike, ToldAlike}
use Rattle.mills_law.proofs.Likeness.{shifted, MillsLike}
use Rattle.mills_law.proofs.Refusals.{first_none, passes, present}
use Rattle.mills_law.proofs.Shifts.{sent_shift, error_shift, position_shift}
use Rattle.mills_law.proofs.AllShifts.{at_shift, set_shift}

from_start : (K : Shift) (a : ℕ) → K (0 + a) ≡ K a
from_start K a = ap K (let e : 0 + a ≡ a = omega arith in e)

-- a call that is refused alike in both
pub unless_like : (K : Shift) (o p : Option Fault) (e w x y : Mill) → p ≡ o → MillsLike K e w → (o ≡ None → MillsLike K x y) → MillsLike K (unless o e x) (unless p w y)
unless_like K o p e w x y g h f = subst (λ (q : Option Fault). MillsLike K (unless o e x) (unless q w y)) (sym g) (at o f) where
  at : (o : Option Fault) → (o ≡ None → MillsLike K x y) → MillsLike K (unless o e x) (unless o w y)
  at None f = f refl
  at (Some s) f = h

told_in : (o : Option Fault) (r q : Report) → (o ≡ None → Alike r q) → ToldAlike (result_of o r) (result_of o q)
told_in None r q h = h refl
told_in (Some f) r q h = refl

module _ (K : Shift) (e w : Mill) (h : MillsLike K e w) (a : ℕ) where
  motor_like : motor_at a w ≡ shifted (K a) (motor_at a e)
  motor_like =
      ap (λ (vs : List MotorView). get_or vs a fresh) h.motors
      ∙ at_shift K 0 e.motors a
      ∙ ap (λ (k : ℤ). shifted k (motor_at a e)) (from_start K a)

  place_like : a < (seen e).axes → position_at a w ≡ position_at a e +ℤ K a
  place_like l = ap (position (seen w) a) motor_like ∙ position_shift K (seen e) (seen w) a (motor_at a e) h.seen l

  with_like : (x y : MotorView) → y ≡ shifted (K a) x → MillsLike K (with_motor a x e) (with_motor a y w)
  with_like x y g =
      record {
        seen = h.seen;
        motors =
            (λ i. set (h.motors i) a ((g ∙ ap (λ (k : ℤ). shifted k x) (sym (from_start K a))) i)) ∙ set_shift K 0 e.motors a x;
      }

  -- the checks
  pub absent_like : absent a w ≡ absent a e
  absent_like = ap (λ (n : ℕ). cond (ltb a n) None (Some (machine_fault NoSuchAxis a))) h.seen.axes

  closed_like : closed a w ≡ closed a e
  closed_like = ap (λ (u : MotorView). cond (is_closed u.state) (Some (machine_fault AxisClosed a)) None) motor_like

  not_closed_like : not_closed a w ≡ not_closed a e
  not_closed_like = ap (λ (u : MotorView). cond (is_closed u.state) None (Some (machine_fault AxisNotClosed a))) motor_like

  -- kill
  pub kill_like : MillsLike K (kills a e) (kills a w)
  kill_like = unless_like K _ _ e w _ _ absent_like h (λ _. with_like (stopped Killed (motor_at a e)) (stopped Killed (motor_at a w)) (ap (stopped Killed) motor_like))

  -- close
  pub close_refused : close_refusal a w ≡ close_refusal a e
  close_refused = λ i. first (absent_like i) (closed_like i)

  pub close_like : MillsLike K (closes a e) (closes a w)
  close_like =
      unless_like K _ _ e w _ _ close_refused h
      (λ n. let l = present a e (first_none (absent a e) (closed a e) n).0 in
      with_like (closed_at (position_at a e) (motor_at a e)) (closed_at (position_at a w) (motor_at a w)) (λ i. closed_at (place_like l i) (motor_like i)))

  -- target: as far in both
  pub target_refused : (t : ℤ) → is_far (t +ℤ K a) ≡ is_far t → target_refusal a (t +ℤ K a) w ≡ target_refusal a t e
  target_refused t f = λ i. first (absent_like i) (first (cond (f i) (Some (machine_fault OutOfRange a)) None) (not_closed_like i))

  pub target_like : (t : ℤ) → is_far (t +ℤ K a) ≡ is_far t → MillsLike K (targets a t e) (targets a (t +ℤ K a) w)
  target_like t f =
      unless_like K _ _ e w _ _ (target_refused t f) h
      (λ n. let o = (first_none (too_far a t) (not_closed a e) (first_none (absent a e) (first (too_far a t) (not_closed a e)) n).1).1 in
      with_like (sent t (motor_at a e)) (sent (t +ℤ K a) (motor_at a w))
      (ap (sent (t +ℤ K a)) motor_like ∙ sent_shift (K a) t (motor_at a e) (passes (is_closed (motor_at a e).state) (machine_fault AxisNotClosed a) o)))

  -- switch
  pub switch_like : (on : Bool) → MillsLike K (switches a on e) (switches a on w)
  switch_like on = unless_like K _ _ e w _ _ absent_like h (λ _. with_like (switched on (motor_at a e)) (switched on (motor_at a w)) (ap (switched on) motor_like))

  -- gains
  pub gains_refused : (g : GainSettings) → gains_refusal a g w ≡ gains_refusal a g e
  gains_refused g = λ i. first (absent_like i) (first (unfit a g) (closed_like i))

  pub gains_like : (g : GainSettings) → MillsLike K (gains_set a g e) (gains_set a g w)
  gains_like g = unless_like K _ _ e w _ _ (gains_refused g) h (λ _. with_like (given g (motor_at a e)) (given g (motor_at a w)) (ap (given g) motor_like))

  -- question
  report_alike : a < (seen e).axes → Alike (report a e) (report a w)
  report_alike l =
      record {
        offset = h.seen.offset a l;
        error = (λ i. following_error (place_like l i) (motor_like i)) ∙ error_shift (K a) (position_at a e) (motor_at a e);
        state = ap (λ (u : MotorView). u.state) motor_like;
        output = ap (λ (u : MotorView). u.output) motor_like;
      }

  pub question_told : ToldAlike (question_answer a e) (question_answer a w)
  question_told =
      subst (λ (o : Option Fault). ToldAlike (question_answer a e) (result_of o (report a w))) (sym absent_like)
      (told_in (absent a e) (report a e) (report a w) (λ n. report_alike (present a e n)))
