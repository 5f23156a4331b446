-- The reply of an axis to an error, with its ki left out.
use Rattle.std.specs.Prelude.{◌≡◌, Bool, true, false, cond, ℤ, pos, negsuc, Ok, Err, Result}
use Rattle.faults.specs.declared.fault.Fault.{Fault}
use Rattle.notch.specs.Filter.{rest, output}
use Rattle.servo.specs.declared.settings.GainSettings.{GainSettings}
use Rattle.servo.specs.declared.cause.Cause.{Cause}
use Rattle.servo.specs.Ranges.{within, fits, out_of_range}
use Rattle.servo.specs.Memories.{Kept}
use Rattle.servo.specs.Step.{answer}

abbrev pub with_ki : ℤ → GainSettings → GainSettings
with_ki k s = record s { ki = k }

abbrev pub without_ki : GainSettings → GainSettings
without_ki s = with_ki (pos 0) s

-- an axis at 0 whose target is and was at e: no velocity, nothing integrated
abbrev pub lagging : ℤ → Kept
lagging e = record { target = e; last_target = e; last_position = pos 0; last_velocity = pos 0; integrator = pos 0 }

-- what the servo's answer puts out with nothing in the notch's memory: 0 where the axis trips
abbrev pub put_out : GainSettings → Result ℤ Cause → ℤ
put_out g (Err c) = pos 0
put_out g (Ok u) = output rest g.notch g.output_limit u

unfoldable pub replied : GainSettings → Kept → ℤ
replied g a = put_out g (answer g a false (pos 0))

-- does e lie within the position limit?
abbrev pub is_reach : ℤ → Bool
is_reach e = within (negsuc 1099511627775) (pos 1099511627776) e

unfoldable pub measured : GainSettings → ℤ → Result ℤ Fault
measured s e = cond (fits s) (cond (is_reach e) (Ok (replied s (lagging e))) (Err out_of_range)) (Err out_of_range)

-- the reply of gains in range, measured without ki
abbrev pub reply_answer : GainSettings → ℤ → Result ℤ Fault
reply_answer s e = cond (fits s) (measured (without_ki s) e) (Err out_of_range)

-- gains in range get an output at every error within the position limit
abbrev pub RepliesMeasured : Type 0
RepliesMeasured =
    (s : GainSettings) (e : ℤ) → fits s ≡ true → is_reach e ≡ true → reply_answer s e ≡ Ok (replied (without_ki s) (lagging e))
