-- The row of an accepted cycle holds what its axes put out afterwards.
use Rattle.std.proofs.Common.{◌≡◌, ℕ, zero, suc, ◌≤◌, List, [], ◌∷◌, map, length, get_or, take, drop, ℤ, pos, Some, None, Ok, Option, sym, refl, ◌∙◌, inl, inr}
use Rattle.std.proofs.lemmas.List.{length-map, length-take-le}
use Rattle.faults.specs.declared.fault.Fault.{Fault}
use Rattle.source.specs.Meaning.{Meaning}
use Rattle.motor.specs.Motors.{MotorView, fresh}
use Rattle.mill.specs.Mills.{Mill, fresh_mill, unless, output_of}
use Rattle.mill.specs.Calls.{result_of, cycle_refusal, cycled, outputs}
use Rattle.mill.specs.Runs.{Command, set_gains, close, kill, target, switch, question, cycle, done, put_out, answer, next}
use Rattle.mills_law.specs.Moments.{mill_at, said}
use Rattle.mills_law.proofs.Walking.{call_or_none, next_at, told_at, silent_at}

-- an accepted cycle that put out the row: its readings, what the mill is then, and what the row is
pub record PutOut (m n : Mill) (row : List ℤ) : Type 0 where
  pub readings : List ℕ
  pub after : n ≡ cycled readings m
  pub out : row ≡ outputs readings m

cycle_put : (o : Option Fault) (r : List ℕ) (m : Mill) (row : List ℤ) → put_out (result_of o (outputs r m)) ≡ put_out (Ok row) → PutOut m (unless o m (cycled r m)) row
cycle_put None r m row e = record { readings = r; after = refl; out = let f : row ≡ outputs r m = cc in f }
cycle_put (Some f) r m row e = cc

call_put : (c : Command) (m : Mill) (row : List ℤ) → answer c m ≡ put_out (Ok row) → PutOut m (next c m) row
call_put (set_gains a g) m row e = cc
call_put (close a) m row e = cc
call_put (kill a) m row e = cc
call_put (target a t) m row e = cc
call_put (switch a on) m row e = cc
call_put (question a) m row e = cc
call_put (cycle r n) m row e = cycle_put (cycle_refusal r n m) r m row e

pub put_then : (s : Meaning) (cs : List Command) (k : ℕ) (row : List ℤ) → said s cs k ≡ put_out (Ok row) → PutOut (mill_at s cs k) (mill_at s cs (suc k)) row
put_then s cs k row e =
    elim (call_or_none (drop k cs)) [
      | inl n ↦ let q = sym (silent_at k cs (fresh_mill s) (done (Ok tt)) n) ∙ e in cc
      | inr p ↦
          let c = p.call in
          let t = call_put c (mill_at s cs k) row (sym (told_at k cs (fresh_mill s) c p.rest (done (Ok tt)) p.is) ∙ e) in
          record { readings = t.readings; after = next_at k cs (fresh_mill s) c p.rest p.is ∙ t.after; out = t.out }
    ]

-- a place of the row is an output, or 0 beyond it
pub place_of : (P : ℤ → Type 0) (n : ℕ) (vs : List MotorView) (a : ℕ) → P (get_or vs a fresh).output → P (pos 0) → P (get_or (map output_of (take n vs)) a (pos 0))
place_of P zero vs a h z = z
place_of P (suc n) [] a h z = z
place_of P (suc n) (v ∷ vs) zero h z = h
place_of P (suc n) (v ∷ vs) (suc a) h z = place_of P n vs a h z

pub row_length : (n : ℕ) (vs : List MotorView) → n ≤ length vs → length (map output_of (take n vs)) ≡ n
row_length n vs l = length-map (take n vs) output_of ∙ length-take-le n vs l
