-- What every call keeps.
use Rattle.std.proofs.Common.{◌≡◌, ℕ, List, [], ◌∷◌, Some, None, Option, refl}
use Rattle.faults.specs.declared.fault.Fault.{Fault}
use Rattle.motor.specs.Motors.{MotorView}
use Rattle.mill.specs.Mills.{Mill, with_motor, unless}
use Rattle.mill.specs.Calls.{absent, gains_refusal, close_refusal, target_refusal, cycle_refusal, cycled}
use Rattle.mill.specs.Runs.{Command, set_gains, close, kill, target, switch, question, cycle, next, run}

-- what holds of a mill, and of another that takes its place where nothing is refused, holds of what is then there
pub unless_both : (o : Option Fault) (x y : Mill) (P : Mill → Type 0) → P x → (o ≡ None → P y) → P (unless o x y)
unless_both None x y P h k = k refl
unless_both (Some f) x y P h k = h

module _ (P : Mill → Type 0) where
  -- what another motor at an axis and an accepted cycle leave so, each call leaves so
  pub next_keeps : (m : Mill) → P m → ((a : ℕ) (v : MotorView) → P (with_motor a v m)) → ((r : List ℕ) → P (cycled r m)) → (c : Command) → P (next c m)
  next_keeps m h f k (set_gains a g) = unless_both (gains_refusal a g m) m _ P h (λ _. f a _)
  next_keeps m h f k (close a) = unless_both (close_refusal a m) m _ P h (λ _. f a _)
  next_keeps m h f k (kill a) = unless_both (absent a m) m _ P h (λ _. f a _)
  next_keeps m h f k (target a t) = unless_both (target_refusal a t m) m _ P h (λ _. f a _)
  next_keeps m h f k (switch a on) = unless_both (absent a m) m _ P h (λ _. f a _)
  next_keeps m h f k (question a) = h
  next_keeps m h f k (cycle r n) = unless_both (cycle_refusal r n m) m (cycled r m) P h (λ _. k r)

  -- and what each call leaves so, a list of them does
  pub run_keeps : ((c : Command) (m : Mill) → P m → P (next c m)) → (cs : List Command) (m : Mill) → P m → P (run cs m)
  run_keeps f [] m h = h
  run_keeps f (c ∷ cs) m h = run_keeps f cs (next c m) (f c m h)
