-- The notch filter in 64-bit floats: every product, sum and difference is rounded once, to nearest, in the order written.
use Rattle.std.specs.Prelude.{false, cond, ℤ, negsuc, from_bits, Float}
use Rattle.std.specs.Float.{fin, binary64}
use Rattle.std.specs.Float.Ieee.{of_int, to_signed, add, sub, mul, neg, lt, le}
use Rattle.notch.specs.declared.notch.Coefficients.{Coefficients}
use Rattle.notch.specs.declared.notch.Notch.{Notch}

-- n times 2 ^ -20
abbrev pub coefficient : ℤ → Float
coefficient n = mul binary64 (of_int binary64 n) (fin false 1 (negsuc 19))

-- (((u + n1 * u1) + n2 * u2) - d1 * y1) - d2 * y2
abbrev pub weighed : Notch → Coefficients → Float → Float
weighed m c u =
    sub binary64
    (sub binary64
    (add binary64
    (add binary64 u (mul binary64 (coefficient c.n1) m.u1))
    (mul binary64 (coefficient c.n2) m.u2))
    (mul binary64 (coefficient c.d1) m.y1))
    (mul binary64 (coefficient c.d2) m.y2)

-- y above o becomes o; otherwise y stays where it is at least -o; otherwise, at a NaN too, it becomes -o
abbrev pub limited : Float → Float → Float
limited o y = cond (lt o y) o (cond (le (neg o) y) y (neg o))

-- the output after the limit o, at the input u
abbrev pub answer : Notch → Coefficients → ℤ → ℤ → Float
answer m c o u = limited (of_int binary64 o) (weighed m c (of_int binary64 u))

-- with its fraction dropped
abbrev pub output : Notch → Coefficients → ℤ → ℤ → ℤ
output m c o u = to_signed 31 (answer m c o u)

-- what is remembered then
abbrev pub after : Notch → Coefficients → ℤ → ℤ → Notch
after m c o u = record { u1 = of_int binary64 u; u2 = m.u1; y1 = answer m c o u; y2 = m.y1 }

-- the float 0, all of whose bits are 0, four times
abbrev pub rest : Notch
rest = record { u1 = from_bits binary64 0; u2 = from_bits binary64 0; y1 = from_bits binary64 0; y2 = from_bits binary64 0 }
