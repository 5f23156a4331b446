use Rattle.std.proofs.Common.{◌≡◌, true, pos, refl, ◌∙◌, arith}
use Rattle.std.proofs.lemmas.Bool.{cond-true}
use Rattle.servo.specs.declared.settings.GainSettings.{GainSettings}
use Rattle.servo.specs.Ranges.{within, is_gain, fits}
use Rattle.motor.specs.Replies.{RepliesMeasured, measured, without_ki}
use Rattle.motor.proofs.laws.replies_are_lawful.Goals as goal

zero_fits : is_gain (pos 0) ≡ true
unfolding within
zero_fits = refl

-- with ki 0 every other gain is as it was
still_fit : (s : GainSettings) → fits s ≡ true → fits (without_ki s) ≡ true
unfolding fits
still_fit s h = grind (arith, zero_fits)

hold : RepliesMeasured
unfolding measured
hold s e h r = cond-true _ _ _ h ∙ cond-true _ _ _ (still_fit s h) ∙ cond-true _ _ _ r

pub returns : goal.returns
returns x = hold
