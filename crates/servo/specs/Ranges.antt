-- The ranges of the gains.
use Rattle.std.specs.Prelude.{◌≤◌, Bool, ◌&&◌, ℤ, pos, negsuc, ◌==◌, int_le, unsigned_abs}
use Rattle.faults.specs.declared.fault.Fault.{Fault}
use Rattle.faults.specs.declared.fault.Part.TheVariants.{Machine}
use Rattle.faults.specs.declared.fault.Refusal.TheVariants.{OutOfRange}
use Rattle.faults.specs.Faults.{fault_of}
use Rattle.notch.specs.declared.notch.Coefficients.{Coefficients}
use Rattle.servo.specs.declared.settings.GainSettings.{GainSettings}

unfoldable pub within : ℤ → ℤ → ℤ → Bool
within low high z = int_le low z && int_le z high

abbrev pub is_gain : ℤ → Bool
is_gain k = within (pos 0) (pos 32767) k

-- in units of 2 ^ -20: from -2 to 2
abbrev pub is_coefficient : ℤ → Bool
is_coefficient n = within (negsuc 2097151) (pos 2097152) n

abbrev pub gains_fit : GainSettings → Bool
gains_fit s = is_gain s.kd && (is_gain s.kv && (is_gain s.ka && is_gain s.ki))

abbrev pub limits_fit : GainSettings → Bool
limits_fit s =
    within (pos 1) (pos 1048576) s.error_limit
    && (within (negsuc 70368744177663) (pos 70368744177664) s.integrator_limit
    && (within (pos 1) (pos 1099511627776) s.following_limit
    && within (pos 1) (pos 32767) s.output_limit))

abbrev pub notch_fits : Coefficients → Bool
notch_fits c = is_coefficient c.n1 && (is_coefficient c.n2 && (is_coefficient c.d1 && is_coefficient c.d2))

unfoldable pub fits : GainSettings → Bool
fits s = within (pos 0) (pos 8388607) s.kp && (gains_fit s && (limits_fit s && notch_fits s.notch))

-- how large gains in range are
pub record Sizes (s : GainSettings) : Type 0 where
  pub kp : unsigned_abs s.kp ≤ 8388607
  pub kd : unsigned_abs s.kd ≤ 32767
  pub kv : unsigned_abs s.kv ≤ 32767
  pub ka : unsigned_abs s.ka ≤ 32767
  pub ki : unsigned_abs s.ki ≤ 32767
  pub error_limit : unsigned_abs s.error_limit ≤ 1048576
  pub integrator_limit : unsigned_abs s.integrator_limit ≤ 70368744177664
  pub following_limit : unsigned_abs s.following_limit ≤ 1099511627776
  pub output_limit : unsigned_abs s.output_limit ≤ 32767

-- is the output o at its limit?
abbrev pub at_limit : GainSettings → ℤ → Bool
at_limit s o = unsigned_abs o == unsigned_abs s.output_limit

-- what gains out of range get
abbrev pub out_of_range : Fault
out_of_range = fault_of Machine OutOfRange

-- 0, with the error, following error and output limits at 1
abbrev pub fresh_settings : GainSettings
fresh_settings =
    record {
      kp = pos 0;
      kd = pos 0;
      kv = pos 0;
      ka = pos 0;
      ki = pos 0;
      error_limit = pos 1;
      integrator_limit = pos 0;
      following_limit = pos 1;
      output_limit = pos 1;
      notch = record { n1 = pos 0; n2 = pos 0; d1 = pos 0; d2 = pos 0 };
    }
