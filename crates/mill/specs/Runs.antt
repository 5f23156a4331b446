-- Lists of calls: what is answered at each, and what the mill is afterwards.
use Rattle.std.specs.Prelude.{ℕ, Bool, List, [], ◌∷◌, ℤ, Result}
use Rattle.faults.specs.declared.fault.Fault.{Fault}
use Rattle.source.specs.Meaning.{answer_of}
use Rattle.servo.specs.declared.settings.GainSettings.{GainSettings}
use Rattle.mill.specs.declared.report.Report.{Report}
use Rattle.mill.specs.Mills.{Mill}
use Rattle.mill.specs.Calls.{absent, gains_refusal, gains_set, close_refusal, closes, kills, target_refusal, targets, switches, result_of, question_answer, cycle_refusal, cycles, outputs}

-- a call, with its row of readings as a list
pub data Command : Type 0 where
  set_gains : ℕ → GainSettings → Command
  close : ℕ → Command
  kill : ℕ → Command
  target : ℕ → ℤ → Command
  switch : ℕ → Bool → Command
  question : ℕ → Command
  -- a row of readings, and the length of the row that is lent for the outputs
  cycle : List ℕ → ℕ → Command

-- an answer: whether it was done, what a question says, or the outputs of an accepted cycle
pub data Reply : Type 0 where
  done : Result (Unit {0}) Fault → Reply
  told : Result Report Fault → Reply
  put_out : Result (List ℤ) Fault → Reply

abbrev pub answer : Command → Mill → Reply
answer (set_gains a g) m = done (answer_of (gains_refusal a g m))
answer (close a) m = done (answer_of (close_refusal a m))
answer (kill a) m = done (answer_of (absent a m))
answer (target a t) m = done (answer_of (target_refusal a t m))
answer (switch a on) m = done (answer_of (absent a m))
answer (question a) m = told (question_answer a m)
answer (cycle row n) m = put_out (result_of (cycle_refusal row n m) (outputs row m))

abbrev pub next : Command → Mill → Mill
next (set_gains a g) m = gains_set a g m
next (close a) m = closes a m
next (kill a) m = kills a m
next (target a t) m = targets a t m
next (switch a on) m = switches a on m
next (question a) m = m
next (cycle row n) m = cycles row n m

abbrev pub run : List Command → Mill → Mill
run [] m = m
run (c ∷ cs) m = run cs (next c m)

abbrev pub answers : List Command → Mill → List Reply
answers [] m = []
answers (c ∷ cs) m = answer c m ∷ answers cs (next c m)
