-- One servo step of a closed axis up to the notch, over plain numbers: g the gains, a what is remembered, full whether the last output was at its limit, x the position.
use Rattle.std.specs.Prelude.{Bool, cond, ◌&&◌, ℤ, pos, ◌+ℤ◌, ◌-ℤ◌, ◌*ℤ◌, Ok, Err, Result, ◌==◌, int_lt, nat_lt, unsigned_abs}
use Rattle.servo.specs.Clip.{clipped, floor}
use Rattle.servo.specs.Memories.{Kept}
use Rattle.servo.specs.declared.settings.GainSettings.{GainSettings}
use Rattle.servo.specs.declared.cause.Cause.{Cause}
use Rattle.servo.specs.declared.cause.Cause.TheVariants.{FollowingError, Integrator}

-- 1. is the following error beyond its limit? and the error e, clipped to its own
abbrev pub is_lost : GainSettings → Kept → ℤ → Bool
is_lost g a x = nat_lt (unsigned_abs g.following_limit) (unsigned_abs (a.target -ℤ x))

abbrev pub error : GainSettings → Kept → ℤ → ℤ
error g a x = clipped (unsigned_abs g.error_limit) (a.target -ℤ x)

-- 2. cv and av, the commanded and the actual velocity
abbrev pub commanded : Kept → ℤ
commanded a = clipped 1048576 (a.target -ℤ a.last_target)

abbrev pub actual : Kept → ℤ → ℤ
actual a x = clipped 1048576 (x -ℤ a.last_position)

-- 3. the integrator: it stays where the last output was at its limit and the sum s is larger
abbrev pub accumulated : GainSettings → Kept → ℤ → ℤ
accumulated g a x = a.integrator +ℤ g.ki *ℤ error g a x

abbrev pub is_held : Kept → Bool → ℤ → Bool
is_held a full s = full && nat_lt (unsigned_abs a.integrator) (unsigned_abs s)

abbrev pub integral : GainSettings → Kept → Bool → ℤ → ℤ
integral g a full x =
    cond (is_held a full (accumulated g a x)) a.integrator (clipped (unsigned_abs g.integrator_limit) (accumulated g a x))

-- has it reached a limit that was set negative?
abbrev pub is_full : GainSettings → Kept → Bool
is_full g a = int_lt g.integrator_limit (pos 0) && unsigned_abs a.integrator == unsigned_abs g.integrator_limit

-- what is remembered after the step
abbrev pub next : GainSettings → Kept → Bool → ℤ → Kept
next g a full x =
    record { target = a.target; last_target = a.target; last_position = x; last_velocity = commanded a; integrator = integral g a full x }

-- 4. M and the notch's input u, where b is what is remembered after the step
abbrev pub mixed : GainSettings → Kept → Kept → ℤ → ℤ
mixed g a b x =
    pos 128 *ℤ error g a x +ℤ g.kv *ℤ b.last_velocity +ℤ g.ka *ℤ (b.last_velocity -ℤ a.last_velocity) -ℤ g.kd *ℤ actual a x
    +ℤ floor b.integrator 65536

abbrev pub drive : GainSettings → Kept → Kept → ℤ → ℤ
drive g a b x = floor (g.kp *ℤ mixed g a b x) 8388608

-- the notch's input, or why the axis trips
abbrev pub answer : GainSettings → Kept → Bool → ℤ → Result ℤ Cause
answer g a full x =
    cond (is_lost g a x) (Err FollowingError) (cond (is_full g (next g a full x)) (Err Integrator) (Ok (drive g a (next g a full x) x)))

-- what is remembered then: nothing new where the axis trips
abbrev pub remembered : GainSettings → Kept → Bool → ℤ → Kept
remembered g a full x = cond (is_lost g a x) a (cond (is_full g (next g a full x)) a (next g a full x))
