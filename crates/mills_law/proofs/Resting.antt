-- An axis that is not closed stays so until a closing of it is accepted.
use Rattle.std.proofs.Common.{◌≡◌, ℕ, zero, suc, ◌+◌, ◌-◌, ◌≤◌, false, ltb, List, [], ◌∷◌, get_or, drop, set, replicate, ℤ, Some, None, Option, sym, refl, ap, subst, inl, inr, add-one, arith}
use Rattle.std.proofs.lemmas.Bool.{true≢false, cond_both}
use Rattle.faults.specs.declared.fault.Fault.{Fault}
use Rattle.source.specs.Meaning.{Seen, Meaning}
use Rattle.motor.specs.declared.state.State.{State}
use Rattle.motor.specs.declared.state.State.TheVariants.{Killed, Closed, Tripped}
use Rattle.motor.specs.States.{is_closed}
use Rattle.motor.specs.Motors.{MotorView, fresh, stopped, stepped, stepped_in}
use Rattle.mill.specs.Mills.{Mill, fresh_mill, motor_at, with_motor, position, unless, stepped_all}
use Rattle.mill.specs.Calls.{absent, gains_refusal, close_refusal, target_refusal, cycle_refusal, cycled}
use Rattle.mill.specs.Runs.{Command, set_gains, close, kill, target, switch, question, cycle, next}
use Rattle.mills_law.specs.Moments.{mill_at}
use Rattle.mills_law.specs.Rest.{AtRest, started, killed, tripped, Closes, NeverClosed}
use Rattle.mills_law.proofs.Keeping.{unless_both}
use Rattle.mills_law.proofs.Walking.{call_or_none, next_at, end_at}

abbrev Open : MotorView → Type 0
Open v = is_closed v.state ≡ false

abbrev pub NotClosed : ℕ → Mill → Type 0
NotClosed a m = Open (motor_at a m)

set_open : (vs : List MotorView) (b a : ℕ) (v : MotorView) → Open (get_or vs a fresh) → (b ≡ a → Open v) → Open (get_or (set vs b v) a fresh)
set_open [] b a v h k = h
set_open (u ∷ vs) zero zero v h k = k refl
set_open (u ∷ vs) zero (suc a) v h k = h
set_open (u ∷ vs) (suc b) zero v h k = h
set_open (u ∷ vs) (suc b) (suc a) v h k = set_open vs b a v h (λ e. k (ap suc e))

-- a call of the axis b, by what it leaves there
axis_open : (o : Option Fault) (a b : ℕ) (v : MotorView) (m : Mill) → NotClosed a m → (o ≡ None → b ≡ a → Open (motor_at b m) → Open v) → NotClosed a (unless o m (with_motor b v m))
axis_open o a b v m h k =
    unless_both o m (with_motor b v m) (NotClosed a) h (λ n. set_open m.motors b a v h (λ e. k n e (subst (λ (i : ℕ). NotClosed i m) (sym e) h)))

stay : (s : State) (x : ℤ) (v : MotorView) → is_closed s ≡ false → Open v → Open (stepped_in s x v)
stay Killed x v e h = h
stay Closed x v e h = absurd (true≢false e)
stay (Tripped c) x v e h = h

steps_open : (s : Seen) (i : ℕ) (vs : List MotorView) (a : ℕ) → Open (get_or vs a fresh) → Open (get_or (stepped_all s i vs) a fresh)
steps_open s i [] a h = h
steps_open s i (v ∷ vs) zero h = cond_both (ltb i s.axes) (stepped (position s i v) v) v Open (λ _. stay v.state (position s i v) v h h) (λ _. h)
steps_open s i (v ∷ vs) (suc a) h = steps_open s (i + 1) vs a h

pub cycled_open : (a : ℕ) (r : List ℕ) (m : Mill) → NotClosed a m → NotClosed a (cycled r m)
cycled_open a r m h = steps_open (m.means (r ∷ [])) 0 m.motors a h

next_open : (a : ℕ) (c : Command) (m : Mill) → NotClosed a m → (c ≡ close a → close_refusal a m ≡ None → ⊥) → NotClosed a (next c m)
next_open a (set_gains b g) m h n = axis_open (gains_refusal b g m) a b _ m h (λ _ _ k. k)
next_open a (close b) m h n =
    axis_open (close_refusal b m) a b _ m h (λ o e _. absurd (n (ap close e) (subst (λ (i : ℕ). close_refusal i m ≡ None) e o)))
next_open a (kill b) m h n = axis_open (absent b m) a b _ m h (λ _ _ _. refl)
next_open a (target b t) m h n = axis_open (target_refusal b t m) a b _ m h (λ _ _ k. k)
next_open a (switch b on) m h n = axis_open (absent b m) a b _ m h (λ _ _ k. k)
next_open a (question b) m h n = h
next_open a (cycle r k) m h n = unless_both (cycle_refusal r k m) m (cycled r m) (NotClosed a) h (λ _. cycled_open a r m h)

-- at rest it is not closed
fresh_open : (n a : ℕ) → Open (get_or (replicate n fresh) a fresh)
fresh_open zero a = refl
fresh_open (suc n) zero = refl
fresh_open (suc n) (suc a) = fresh_open n a

stopped_here : (vs : List MotorView) (a : ℕ) (v : MotorView) → Open (get_or (set vs a (stopped Killed v)) a fresh)
stopped_here [] a v = refl
stopped_here (u ∷ vs) zero v = refl
stopped_here (u ∷ vs) (suc a) v = stopped_here vs a v

kills_open : (a : ℕ) (o : Option Fault) (m : Mill) → o ≡ None → NotClosed a (unless o m (with_motor a (stopped Killed (motor_at a m)) m))
kills_open a None m e = stopped_here m.motors a (motor_at a m)
kills_open a (Some f) m e = cc

module _ (a : ℕ) (s : Meaning) (cs : List Command) where
  abbrev OpenThen : ℕ → Type 0
  OpenThen k = NotClosed a (mill_at s cs k)

  rest_open : (i : ℕ) → AtRest a s cs i → OpenThen i
  rest_open i started = fresh_open 8 a
  rest_open i (killed k rest e n) =
      subst (λ (j : ℕ). OpenThen j) (sym (add-one k))
      (subst (λ (m : Mill). NotClosed a m) (sym (next_at k cs (fresh_mill s) (kill a) rest e)) (kills_open a (absent a (mill_at s cs k)) (mill_at s cs k) n))
  rest_open i (tripped k c e) = ap is_closed e

  -- from one moment to the next
  stays : (k : ℕ) → OpenThen k → (Closes a s cs k → ⊥) → OpenThen (suc k)
  stays k h n =
      elim (call_or_none (drop k cs)) [
        | inl e ↦ subst (λ (m : Mill). NotClosed a m) (sym (end_at k cs (fresh_mill s) e)) h
        | inr p ↦
            subst (λ (m : Mill). NotClosed a m) (sym (next_at k cs (fresh_mill s) p.call p.rest p.is))
            (next_open a p.call (mill_at s cs k) h
            (λ f o. n (record { rest = p.rest; asked = subst (λ (c : Command). drop k cs ≡ c ∷ p.rest) f p.is; accepted = o })))
      ]

  open_on : (i : ℕ) → OpenThen i → (d j : ℕ) → j ≡ i + d → NeverClosed a s cs i j → OpenThen j
  open_on i h zero j e n = subst (λ (k : ℕ). OpenThen k) (let f : i ≡ j = omega arith in f) h
  open_on i h (suc d) j e n =
      let f : suc (i + d) ≡ j = omega arith in
      subst (λ (k : ℕ). OpenThen k) f
      (stays (i + d) (open_on i h d (i + d) refl (λ k l m c. n k l (omega arith) c)) (λ c. n (i + d) (omega arith) (omega arith) c))

  pub open_until : (i j : ℕ) → AtRest a s cs i → i ≤ j → NeverClosed a s cs i j → OpenThen j
  open_until i j r l n = open_on i (rest_open i r) (j - i) j (omega arith) n
