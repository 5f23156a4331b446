-- Every call keeps outputs within their limits, and at 0 where an axis is not closed.
use Rattle.std.proofs.Common.{◌≡◌, ℕ, zero, suc, ◌+◌, ◌≤◌, true, false, ltb, List, [], ◌∷◌, get_or, replicate, ℤ, pos, nat_abs, None, Ok, Err, Option, Result, sym, refl, subst, arith}
use lib.Ieee.{of_int, binary64}
use Rattle.std.proofs.lemmas.Bool.{true≢false, cond_both}
use Rattle.std.specs.List.{All}
use Rattle.std.proofs.lemmas.List.Elements.{All-nil, All-cons, All-head, All-tail, All-replicate, All-set}
use Rattle.faults.specs.declared.fault.Fault.{Fault}
use Rattle.faults.specs.declared.fault.Refusal.TheVariants.{OutOfRange, AxisClosed}
use Rattle.source.specs.Meaning.{Seen}
use Rattle.notch.specs.Filter.{weighed}
use Rattle.notch.proofs.Bounds.{bounded}
use Rattle.servo.specs.declared.settings.GainSettings.{GainSettings}
use Rattle.servo.specs.declared.cause.Cause.{Cause}
use Rattle.servo.specs.Memories.{Kept}
use Rattle.servo.specs.Ranges.{fits, at_limit}
use Rattle.servo.specs.Step.{answer, remembered}
use Rattle.servo.proofs.Sizes.{sizes}
use Rattle.motor.specs.declared.state.State.{State}
use Rattle.motor.specs.declared.state.State.TheVariants.{Killed, Closed, Tripped}
use Rattle.motor.specs.States.{is_closed}
use Rattle.motor.specs.Motors.{MotorView, fresh, stopped, closed_at, acted_by, stepped_in, stepped, given, sent, switched}
use Rattle.mill.specs.Mills.{Mill, motor_at, with_motor, position, position_at, machine_fault, first, unless, stepped_all}
use Rattle.mill.specs.Calls.{absent, closed, unfit, gains_refusal, close_refusal, target_refusal, cycle_refusal, cycled}
use Rattle.mill.specs.Runs.{Command, set_gains, close, kill, target, switch, question, cycle, next, run}
use Rattle.mills_law.proofs.Keeping.{run_keeps, unless_both}
use Rattle.mills_law.proofs.Refusals.{first_none, passes, fails}

pub record Limited (v : MotorView) : Type 0 where
  pub limit : nat_abs v.output ≤ nat_abs v.gains.output_limit
  pub still : is_closed v.state ≡ false → v.output ≡ pos 0
  pub range : nat_abs v.gains.output_limit ≤ 32767

stopped_limited : (s : State) (v : MotorView) → Limited v → Limited (stopped s v)
stopped_limited s v h = record { limit = omega arith; still = λ _. refl; range = h.range }

acted_limited : (r : Result ℤ Cause) (b : Kept) (v : MotorView) → Limited v → Limited (acted_by r b v)
acted_limited (Err c) b v h = stopped_limited (Tripped c) v h
acted_limited (Ok u) b v h =
    let k = h.range in
    record {
      limit = bounded v.gains.output_limit (weighed v.notch v.gains.notch (of_int binary64 u)) (omega arith);
      still = λ e. absurd (true≢false e);
      range = k;
    }

stepped_limited : (s : State) (x : ℤ) (v : MotorView) → Limited v → Limited (stepped_in s x v)
stepped_limited Killed x v h = h
stepped_limited Closed x v h =
    let full = at_limit v.gains v.output in
    acted_limited (answer v.gains v.memory full x) (remembered v.gains v.memory full x) v h
stepped_limited (Tripped c) x v h = h

all_stepped : (s : Seen) (i : ℕ) (vs : List MotorView) → All Limited vs → All Limited (stepped_all s i vs)
all_stepped s i [] h = All-nil Limited
all_stepped s i (v ∷ vs) h =
    let k = All-head Limited v vs h in
    All-cons Limited _ _ (cond_both (ltb i s.axes) (stepped (position s i v) v) v Limited (λ _. stepped_limited v.state (position s i v) v k) (λ _. k))
    (all_stepped s (i + 1) vs (All-tail Limited v vs h))

fresh_limited : Limited fresh
fresh_limited = record { limit = omega arith; still = λ _. refl; range = omega arith }

pub all_fresh : All Limited (replicate 8 fresh)
all_fresh = All-replicate Limited 8 fresh fresh_limited

pub limited_at : (vs : List MotorView) (a : ℕ) → All Limited vs → Limited (get_or vs a fresh)
limited_at [] a h = fresh_limited
limited_at (v ∷ vs) zero h = All-head Limited v vs h
limited_at (v ∷ vs) (suc a) h = limited_at vs a (All-tail Limited v vs h)

-- new gains are in range, and the output of a motor that takes them is 0
given_limited : (g : GainSettings) (v : MotorView) → fits g ≡ true → is_closed v.state ≡ false → Limited v → Limited (given g v)
given_limited g v e o h =
    let z = h.still o in
    record { limit = subst (λ (x : ℤ). nat_abs x ≤ nat_abs g.output_limit) (sym z) (omega arith); still = h.still; range = (sizes g e).output_limit }

abbrev pub Sound : Mill → Type 0
Sound m = All Limited m.motors

-- a call of one axis, by what it leaves there
axis_sound : (o : Option Fault) (a : ℕ) (v : MotorView) (m : Mill) → Sound m → (o ≡ None → Limited (motor_at a m) → Limited v) → Sound (unless o m (with_motor a v m))
axis_sound o a v m h k = unless_both o m (with_motor a v m) Sound h (λ n. All-set Limited m.motors a v (k n (limited_at m.motors a h)) h)

pub next_sound : (c : Command) (m : Mill) → Sound m → Sound (next c m)
next_sound (set_gains a g) m h =
    axis_sound (gains_refusal a g m) a (given g (motor_at a m)) m h
    (λ n. let p = first_none (unfit a g) (closed a m) (first_none (absent a m) (first (unfit a g) (closed a m)) n).1 in
    given_limited g (motor_at a m) (passes (fits g) (machine_fault OutOfRange a) p.0) (fails (is_closed (motor_at a m).state) (machine_fault AxisClosed a) p.1))
next_sound (close a) m h =
    axis_sound (close_refusal a m) a (closed_at (position_at a m) (motor_at a m)) m h
    (λ _ k. record { limit = omega arith; still = λ _. refl; range = k.range })
next_sound (kill a) m h = axis_sound (absent a m) a (stopped Killed (motor_at a m)) m h (λ _. stopped_limited Killed (motor_at a m))
next_sound (target a t) m h =
    axis_sound (target_refusal a t m) a (sent t (motor_at a m)) m h (λ _ k. record { limit = k.limit; still = k.still; range = k.range })
next_sound (switch a on) m h =
    axis_sound (absent a m) a (switched on (motor_at a m)) m h (λ _ k. record { limit = k.limit; still = k.still; range = k.range })
next_sound (question a) m h = h
next_sound (cycle r n) m h = unless_both (cycle_refusal r n m) m (cycled r m) Sound h (λ _. all_stepped (m.means (r ∷ [])) 0 m.motors h)

pub run_sound : (cs : List Command) (m : Mill) → Sound m → Sound (run cs m)
run_sound = run_keeps Sound next_sound
