-- The sizes of gains that are in range.
use Rattle.std.proofs.Common.{◌≡◌, ℕ, ◌≤◌, true, ℤ, pos, negsuc, nat_abs, arith, lit≤}
use borrow.Author.Differences.{ints}
use Rattle.servo.specs.declared.settings.GainSettings.{GainSettings}
use Rattle.servo.specs.Ranges.{Sizes, within, fits}

small : (low high z : ℤ) (n : ℕ) → within low high z ≡ true → nat_abs low ≤ n → nat_abs high ≤ n → nat_abs z ≤ n
unfolding within
small low high z n e l h = grind (arith, ints)

pub sizes : (s : GainSettings) → fits s ≡ true → Sizes s
unfolding fits
sizes s e =
    record {
      kp = small (pos 0) (pos 8388607) s.kp _ (grind arith) (lit≤ tt) (lit≤ tt);
      kd = small (pos 0) (pos 32767) s.kd _ (grind arith) (lit≤ tt) (lit≤ tt);
      kv = small (pos 0) (pos 32767) s.kv _ (grind arith) (lit≤ tt) (lit≤ tt);
      ka = small (pos 0) (pos 32767) s.ka _ (grind arith) (lit≤ tt) (lit≤ tt);
      ki = small (pos 0) (pos 32767) s.ki _ (grind arith) (lit≤ tt) (lit≤ tt);
      error_limit = small (pos 1) (pos 1048576) s.error_limit _ (grind arith) (lit≤ tt) (lit≤ tt);
      integrator_limit = small (negsuc 70368744177663) (pos 70368744177664) s.integrator_limit _ (grind arith) (lit≤ tt) (lit≤ tt);
      following_limit = small (pos 1) (pos 1099511627776) s.following_limit _ (grind arith) (lit≤ tt) (lit≤ tt);
      output_limit = small (pos 1) (pos 32767) s.output_limit _ (grind arith) (lit≤ tt) (lit≤ tt);
    }
