-- Numbers brought to at most a size, and quotients that round down.
use Rattle.std.specs.Prelude.{ℕ, ℤ, pos, neg_ℤ}
use Rattle.std.specs.Int.{int_max, int_min, int_div_euclid}

unfoldable pub clipped : ℕ → ℤ → ℤ
clipped b z = int_max (neg_ℤ (pos b)) (int_min z (pos b))

-- ⌊z / n⌋
unfoldable pub floor : ℤ → ℕ → ℤ
floor z n = int_div_euclid z (pos n)
