-- Mills that are set up alike but for the order of their layers and whole spans of shift answer the same.
use Rattle.std.specs.Prelude.{◌≡◌, ℕ, ◌<◌, List, [], ◌∷◌, length, take, Ok, Err, Result}
use Rattle.faults.specs.declared.fault.Fault.{Fault}
use Rattle.source.specs.Meaning.{Meaning}
use Rattle.mill.specs.declared.report.Report.{Report}
use Rattle.mill.specs.Mills.{fresh_mill}
use Rattle.mill.specs.Runs.{Reply, done, told, put_out, answers}
use Rattle.stacks.specs.Stack.{Layer, stacked}
use Rattle.stacks.specs.StackLaws.{Reordered, AllFit, AllWhole}
use Rattle.stacks.specs.Runs.{Matched}
use Rattle.mills_law.specs.Moments.{rows_then, correction_then}
use Rattle.mills_law.specs.Pairs.{Shift, PairCommand, easts, wests, AllNear}

-- what is said of an axis agrees but for where it is; the state carries the cause of a trip
pub record Alike (r q : Report) : Type 0 where
  pub offset : q.offset ≡ r.offset
  pub error : q.following_error ≡ r.following_error
  pub state : q.state ≡ r.state
  pub output : q.output ≡ r.output

abbrev pub ToldAlike : Result Report Fault → Result Report Fault → Type 0
ToldAlike (Ok r) (Ok q) = Alike r q
ToldAlike (Ok r) (Err g) = ⊥
ToldAlike (Err f) (Ok q) = ⊥
ToldAlike (Err f) (Err g) = g ≡ f

-- accepted in both or refused with equal faults; accepted cycles put out the same
abbrev pub Agree : Reply → Reply → Type 0
Agree (done r) (done q) = q ≡ r
Agree (done r) (told q) = ⊥
Agree (done r) (put_out q) = ⊥
Agree (told r) (done q) = ⊥
Agree (told r) (told q) = ToldAlike r q
Agree (told r) (put_out q) = ⊥
Agree (put_out r) (done q) = ⊥
Agree (put_out r) (told q) = ⊥
Agree (put_out r) (put_out q) = q ≡ r

abbrev pub AllAgree : List Reply → List Reply → Type 0
AllAgree [] [] = Unit {0}
AllAgree [] (q ∷ qs) = ⊥
AllAgree (r ∷ rs) [] = ⊥
AllAgree (r ∷ rs) (q ∷ qs) = Agree r q × AllAgree rs qs

-- what is asked of two mills: the same layers in any order, of which all fit, shifts by whole spans, bottoms that match at the start and after each cycle
-- and refuse alike, and no target beyond the position limit
pub record SetUpAlike (K : Shift) (e w : Meaning) (cs : List PairCommand) (bE bW : Meaning) (lsE lsW : List Layer) : Type 0 where
  pub east : e ≡ stacked lsE bE
  pub west : w ≡ stacked lsW bW
  pub order : Reordered lsE lsW
  pub fit : AllFit lsE bE
  pub whole : AllWhole K lsE
  pub bottoms : Matched K bE bW (rows_then bE (easts cs) (length cs)) (rows_then bW (wests K cs) (length cs))
  pub near : AllNear K cs

-- what then holds: all answers agree, and at every moment the corrections of every axis are equal
pub record Same (K : Shift) (e w : Meaning) (cs : List PairCommand) (bE bW : Meaning) : Type 0 where
  pub answers : AllAgree (answers (easts cs) (fresh_mill e)) (answers (wests K cs) (fresh_mill w))
  pub corrections : (k a : ℕ) → a < (e []).axes → correction_then a w bW (wests K cs) k ≡ correction_then a e bE (easts cs) k

-- for any first calls of the list along which that is met
abbrev pub SameMills : Shift → Meaning → Meaning → List PairCommand → Type 0
SameMills K e w cs =
    (bE bW : Meaning) (lsE lsW : List Layer) (n : ℕ) → SetUpAlike K e w (take n cs) bE bW lsE lsW → Same K e w (take n cs) bE bW
