-- What one motor does, it does k further on too.
use Rattle.std.proofs.Common.{◌≡◌, ℕ, ◌<◌, Bool, true, false, cond, ◌&&◌, eqb, ltb, ℤ, pos, ◌+ℤ◌, ◌-ℤ◌, ◌*ℤ◌, nat_abs, Ok, Err, Result, refl, ap, ◌∙◌, arith}
use lib.Signed.{lt_z}
use Rattle.std.proofs.lemmas.Int.{ints}
use Rattle.std.proofs.lemmas.Bool.{false≢true}
use Rattle.source.specs.Meaning.{Seen}
use Rattle.notch.specs.declared.notch.Notch.{Notch}
use Rattle.servo.specs.declared.settings.GainSettings.{GainSettings}
use Rattle.servo.specs.declared.cause.Cause.{Cause}
use Rattle.servo.specs.declared.cause.Cause.TheVariants.{FollowingError, Integrator}
use Rattle.servo.specs.Clip.{clipped, floor}
use Rattle.servo.specs.Ranges.{at_limit}
use Rattle.servo.specs.Memories.{Kept}
use Rattle.servo.specs.Step.{answer, remembered}
use Rattle.motor.specs.declared.state.State.{State}
use Rattle.motor.specs.declared.state.State.TheVariants.{Killed, Closed, Tripped}
use Rattle.motor.specs.States.{is_closed}
use Rattle.motor.specs.Motors.{MotorView, acted_by, stepped, sent, following_error}
use Rattle.mill.specs.Mills.{position}
use Rattle.stacks.specs.StackLaws.{Matching}
use Rattle.mills_law.specs.Pairs.{Shift}
use Rattle.mills_law.proofs.Likeness.{further, shifted}

-- differences do not notice a shift
pub less : (a b k : ℤ) → (a +ℤ k) -ℤ (b +ℤ k) ≡ a -ℤ b
less a b k = omega (arith, ints)

over : (a b k : ℤ) → (a +ℤ k) +ℤ b ≡ (a +ℤ b) +ℤ k
over a b k = omega (arith, ints)

cond_further : (b : Bool) (k : ℤ) (x y : Kept) → cond b (further k x) (further k y) ≡ further k (cond b x y)
cond_further true k x y = refl
cond_further false k x y = refl

-- a servo's step knows its positions by three differences only: d to the target, c that the target went, v that the axis went
module _ (k : ℤ) (g : GainSettings) (m : Kept) (full : Bool) (x : ℤ) where
  abbrev summed : ℤ → ℤ
  summed d = m.integrator +ℤ g.ki *ℤ clipped (nat_abs g.error_limit) d

  abbrev stored : ℤ → ℤ
  stored d =
      cond (full && ltb (nat_abs m.integrator) (nat_abs (summed d))) m.integrator (clipped (nat_abs g.integrator_limit) (summed d))

  abbrev driven : ℤ → ℤ → ℤ → ℤ
  driven d c v =
      floor (g.kp *ℤ (pos 128 *ℤ clipped (nat_abs g.error_limit) d +ℤ g.kv *ℤ clipped 1048576 c +ℤ g.ka *ℤ (clipped 1048576 c -ℤ m.last_velocity) -ℤ g.kd *ℤ clipped 1048576 v
      +ℤ floor (stored d) 65536)) 8388608

  abbrev lost : ℤ → Bool
  lost d = ltb (nat_abs g.following_limit) (nat_abs d)

  abbrev filled : ℤ → Bool
  filled d = lt_z g.integrator_limit (pos 0) && eqb (nat_abs (stored d)) (nat_abs g.integrator_limit)

  abbrev later : ℤ → ℤ → Kept
  later d c =
      record { target = m.target; last_target = m.target; last_position = x; last_velocity = clipped 1048576 c; integrator = stored d }

  abbrev answered : ℤ → ℤ → ℤ → Result ℤ Cause
  answered d c v = cond (lost d) (Err FollowingError) (cond (filled d) (Err Integrator) (Ok (driven d c v)))

  answer_shift : answer g (further k m) full (x +ℤ k) ≡ answer g m full x
  answer_shift = λ i. answered (less m.target x k i) (less m.target m.last_target k i) (less x m.last_position k i)

  abbrev further_by : ℤ → ℤ → Kept
  further_by d c = cond (lost d) (further k m) (cond (filled d) (further k m) (further k (later d c)))

  remembered_shift : remembered g (further k m) full (x +ℤ k) ≡ further k (remembered g m full x)
  remembered_shift =
      let d = m.target -ℤ x in
      let n = later (m.target -ℤ x) (m.target -ℤ m.last_target) in
      (λ i. further_by (less m.target x k i) (less m.target m.last_target k i))
      ∙ ap (λ (b : Kept). cond (lost d) (further k m) b) (cond_further (filled d) k m n)
      ∙ cond_further (lost d) k m (cond (filled d) m n)

-- closed or not
module _ (k : ℤ) (on : Bool) (g : GainSettings) (m : Kept) (n : Notch) (o : ℤ) where
  abbrev made : State → MotorView
  made s = record { state = s; correction = on; gains = g; memory = m; notch = n; output = o }

  sent_in : (t : ℤ) (s : State) → is_closed s ≡ true → sent (t +ℤ k) (shifted k (made s)) ≡ shifted k (sent t (made s))
  sent_in t Killed e = absurd (false≢true e)
  sent_in t Closed e = refl
  sent_in t (Tripped c) e = absurd (false≢true e)

  error_in : (x : ℤ) (s : State) → following_error (x +ℤ k) (shifted k (made s)) ≡ following_error x (made s)
  error_in x Killed = refl
  error_in x Closed = less m.target x k
  error_in x (Tripped c) = refl

  acted_shift : (b : Kept) (r : Result ℤ Cause) → acted_by r (further k b) (shifted k (made Closed)) ≡ shifted k (acted_by r b (made Closed))
  acted_shift b (Err c) = refl
  acted_shift b (Ok u) = refl

  stepped_at : (x : ℤ) (s : State) → stepped (x +ℤ k) (shifted k (made s)) ≡ shifted k (stepped x (made s))
  stepped_at x Killed = refl
  stepped_at x Closed =
      let full = at_limit g o in
      (λ i. acted_by (answer_shift k g m full x i) (remembered_shift k g m full x i) (shifted k (made Closed)))
      ∙ acted_shift (remembered g m full x) (answer g m full x)
  stepped_at x (Tripped c) = refl

pub sent_shift : (k t : ℤ) (v : MotorView) → is_closed v.state ≡ true → sent (t +ℤ k) (shifted k v) ≡ shifted k (sent t v)
sent_shift k t v e = sent_in k v.correction v.gains v.memory v.notch v.output t v.state e

pub error_shift : (k x : ℤ) (v : MotorView) → following_error (x +ℤ k) (shifted k v) ≡ following_error x v
error_shift k x v = error_in k v.correction v.gains v.memory v.notch v.output x v.state

pub stepped_shift : (k x : ℤ) (v : MotorView) → stepped (x +ℤ k) (shifted k v) ≡ shifted k (stepped x v)
stepped_shift k x v = stepped_at k v.correction v.gains v.memory v.notch v.output x v.state

-- where a motor is
place : (b : Bool) (x y k : ℤ) → cond b ((x +ℤ k) +ℤ y) (x +ℤ k) ≡ cond b (x +ℤ y) x +ℤ k
place true x y k = over x y k
place false x y k = refl

pub position_shift : (K : Shift) (e w : Seen) (a : ℕ) (v : MotorView) → Matching K e w → a < e.axes → position w a (shifted (K a) v) ≡ position e a v +ℤ K a
position_shift K e w a v h l =
    (λ i. cond v.correction (h.bare a l i +ℤ h.offset a l i) (h.bare a l i)) ∙ place v.correction (e.bare a) (e.offset a) (K a)
