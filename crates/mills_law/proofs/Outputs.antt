-- What a fresh mill puts out: 0 at rest, never more than a limit, and a row of one place an axis.
use Rattle.std.proofs.Common.{◌≡◌, ℕ, suc, ◌+◌, ◌≤◌, List, [], ◌∷◌, length, get_or, take, ℤ, pos, nat_abs, Ok, sym, refl, ap, ◌∙◌, subst, add-one, arith}
use Rattle.source.specs.Meaning.{Meaning, Lawful}
use Rattle.mill.specs.Mills.{Mill, fresh_mill, seen, motor_at}
use Rattle.mill.specs.Calls.{cycled}
use Rattle.mill.specs.Runs.{Command, put_out}
use Rattle.mills_law.specs.Moments.{mill_at, said}
use Rattle.mills_law.specs.Rest.{AtRest, NeverClosed, StandsStill, KeepsLimits}
use Rattle.mills_law.proofs.Feeding.{run_has}
use Rattle.mills_law.proofs.Limits.{Limited, limited_at, all_fresh, run_sound}
use Rattle.mills_law.proofs.EightMotors.{as_many, run_many}
use Rattle.mills_law.proofs.OutputRows.{put_then, place_of, row_length}
use Rattle.mills_law.proofs.Resting.{NotClosed, cycled_open, open_until}

module _ (s : Meaning) (cs : List Command) where
  limited_then : (a k : ℕ) → Limited (motor_at a (mill_at s cs k))
  limited_then a k = limited_at (mill_at s cs k).motors a (run_sound (take k cs) (fresh_mill s) all_fresh)

  -- what holds of an axis's output after an accepted cycle, and of 0, holds of its place in the row
  in_row : (P : ℤ → Type 0) (a k : ℕ) (row : List ℤ) → said s cs k ≡ put_out (Ok row) → P (motor_at a (mill_at s cs (suc k))).output → P (pos 0) → P (get_or row a (pos 0))
  in_row P a k row e h z =
      let p = put_then s cs k row e in
      let n = cycled p.readings (mill_at s cs k) in
      subst (λ (xs : List ℤ). P (get_or xs a (pos 0))) (sym p.out)
      (place_of P (seen (mill_at s cs k)).axes n.motors a (subst (λ (m : Mill). P (motor_at a m).output) p.after h) z)

  still_place : (a i j : ℕ) (row : List ℤ) → AtRest a s cs i → i ≤ j → NeverClosed a s cs i j → said s cs j ≡ put_out (Ok row) → get_or row a (pos 0) ≡ pos 0
  still_place a i j row r l n e =
      let p = put_then s cs j row e in
      let o = cycled_open a p.readings (mill_at s cs j) (open_until a s cs i j r l n) in
      in_row (λ (z : ℤ). z ≡ pos 0) a j row e ((limited_then a (suc j)).still (subst (NotClosed a) (sym p.after) o)) refl

  pub stands_still : StandsStill s cs
  stands_still = record { output = λ a i j r l n. (limited_then a j).still (open_until a s cs i j r l n); place = still_place }

  limited_place : (a k : ℕ) (row : List ℤ) → said s cs k ≡ put_out (Ok row) → nat_abs (get_or row a (pos 0)) ≤ nat_abs (motor_at a (mill_at s cs (k + 1))).gains.output_limit
  limited_place a k row e =
      subst (λ (j : ℕ). nat_abs (get_or row a (pos 0)) ≤ nat_abs (motor_at a (mill_at s cs j)).gains.output_limit) (sym (add-one k))
      (in_row (λ (z : ℤ). nat_abs z ≤ nat_abs (motor_at a (mill_at s cs (suc k))).gains.output_limit) a k row e (limited_then a (suc k)).limit (omega arith))

  all_places : Lawful s → (k : ℕ) (row : List ℤ) → said s cs k ≡ put_out (Ok row) → length row ≡ (s []).axes
  all_places h k row e =
      let p = put_then s cs k row e in
      let m = mill_at s cs k in
      let f = h.few in
      let x = run_has (s []).axes (take k cs) (fresh_mill s) h.axes [] in
      let y = as_many (m.means (p.readings ∷ [])) 0 m.motors in
      let z = run_many 8 (take k cs) (fresh_mill s) refl in
      ap length p.out ∙ row_length (seen m).axes (cycled p.readings m).motors (omega arith) ∙ x

  pub keeps_limits : Lawful s → KeepsLimits s cs
  keeps_limits h = record { output = λ a k. (limited_then a k).limit; place = limited_place; places = all_places h }
