-- The sum of M, one operation at a time: each fits 64 bits.
use Rattle.std.proofs.Common.{◌^◌, ◌<◌, ◌≤◌, ℤ, pos, ◌+ℤ◌, ◌-ℤ◌, ◌*ℤ◌, nat_abs, arith, w64, SFits}
use borrow.Author.Differences.{ints}

pub record Sums (e p q r s : ℤ) : Type 0 where
  pub error : SFits w64 e
  pub first : SFits w64 p
  pub second : SFits w64 q
  pub third : SFits w64 r
  pub fourth : SFits w64 s
  pub upto0 : SFits w64 (pos 128 *ℤ e)
  pub upto1 : SFits w64 (pos 128 *ℤ e +ℤ p)
  pub upto2 : SFits w64 (pos 128 *ℤ e +ℤ p +ℤ q)
  pub upto3 : SFits w64 (pos 128 *ℤ e +ℤ p +ℤ q -ℤ r)
  pub upto4 : SFits w64 (pos 128 *ℤ e +ℤ p +ℤ q -ℤ r +ℤ s)
  pub size : nat_abs (pos 128 *ℤ e +ℤ p +ℤ q -ℤ r +ℤ s) < 2 ^ 38

pub sums : (e p q r s : ℤ) → nat_abs e ≤ 2 ^ 20 → nat_abs p ≤ 2 ^ 36 → nat_abs q ≤ 2 ^ 36 → nat_abs r ≤ 2 ^ 36 → nat_abs s ≤ 2 ^ 30 → Sums e p q r s
sums e p q r s he hp hq hr hs =
    record {
      error = omega (arith, ints);
      first = omega (arith, ints);
      second = omega (arith, ints);
      third = omega (arith, ints);
      fourth = omega (arith, ints);
      upto0 = omega (arith, ints);
      upto1 = omega (arith, ints);
      upto2 = omega (arith, ints);
      upto3 = omega (arith, ints);
      upto4 = omega (arith, ints);
      size = omega (arith, ints);
    }
