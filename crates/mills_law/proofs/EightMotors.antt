-- A mill keeps as many motors as it has.
use Rattle.std.proofs.Common.{◌≡◌, ℕ, suc, ◌+◌, List, [], ◌∷◌, length, refl, ap, ◌∙◌}
use Rattle.std.proofs.lemmas.List.{length-set}
use Rattle.source.specs.Meaning.{Seen}
use Rattle.motor.specs.Motors.{MotorView}
use Rattle.mill.specs.Mills.{Mill, stepped_all}
use Rattle.mill.specs.Runs.{Command, run}
use Rattle.mills_law.proofs.Keeping.{next_keeps, run_keeps}

pub as_many : (s : Seen) (i : ℕ) (vs : List MotorView) → length (stepped_all s i vs) ≡ length vs
as_many s i [] = refl
as_many s i (v ∷ vs) = ap suc (as_many s (i + 1) vs)

pub run_many : (n : ℕ) (cs : List Command) (m : Mill) → length m.motors ≡ n → length (run cs m).motors ≡ n
run_many n =
    run_keeps (λ k. length k.motors ≡ n)
    (λ c m h. next_keeps (λ k. length k.motors ≡ n) m h (λ a v. length-set m.motors a v ∙ h) (λ r. as_many (m.means (r ∷ [])) 0 m.motors ∙ h) c)
