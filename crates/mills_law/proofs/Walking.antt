-- A run by its moments: the call after each, what it leaves and what is answered.
use Rattle.std.proofs.Common.{◌≡◌, ℕ, zero, suc, ◌⊎◌, List, [], ◌∷◌, get_or, take, drop, refl, ap, inl, inr}
use Rattle.mill.specs.Mills.{Mill}
use Rattle.mill.specs.Runs.{Command, Reply, answer, next, run, answers}

-- there is a call then, or none
pub record CallFirst (cs : List Command) : Type 0 where
  pub call : Command
  pub rest : List Command
  pub is : cs ≡ call ∷ rest

pub call_or_none : (cs : List Command) → (cs ≡ []) ⊎ CallFirst cs
call_or_none [] = inl refl
call_or_none (c ∷ cs) = inr (record { call = c; rest = cs; is = refl })

pub next_at : (k : ℕ) (cs : List Command) (m : Mill) (c : Command) (rest : List Command) → drop k cs ≡ c ∷ rest → run (take (suc k) cs) m ≡ next c (run (take k cs) m)
next_at zero [] m c rest e = cc
next_at zero (d ∷ ds) m c rest e = let f : d ≡ c = cc in ap (λ (x : Command). next x m) f
next_at (suc k) [] m c rest e = cc
next_at (suc k) (d ∷ ds) m c rest e = next_at k ds (next d m) c rest e

pub told_at : (k : ℕ) (cs : List Command) (m : Mill) (c : Command) (rest : List Command) (r : Reply) → drop k cs ≡ c ∷ rest → get_or (answers cs m) k r ≡ answer c (run (take k cs) m)
told_at zero [] m c rest r e = cc
told_at zero (d ∷ ds) m c rest r e = let f : d ≡ c = cc in ap (λ (x : Command). answer x m) f
told_at (suc k) [] m c rest r e = cc
told_at (suc k) (d ∷ ds) m c rest r e = told_at k ds (next d m) c rest r e

pub end_at : (k : ℕ) (cs : List Command) (m : Mill) → drop k cs ≡ [] → run (take (suc k) cs) m ≡ run (take k cs) m
end_at zero [] m e = refl
end_at zero (d ∷ ds) m e = cc
end_at (suc k) [] m e = refl
end_at (suc k) (d ∷ ds) m e = end_at k ds (next d m) e

pub silent_at : (k : ℕ) (cs : List Command) (m : Mill) (r : Reply) → drop k cs ≡ [] → get_or (answers cs m) k r ≡ r
silent_at zero [] m r e = refl
silent_at zero (d ∷ ds) m r e = cc
silent_at (suc k) [] m r e = refl
silent_at (suc k) (d ∷ ds) m r e = silent_at k ds (next d m) r e
