-- How many entries a heading asks for, at most.
use Rattle.std.proofs.Common.{ℕ, ◌+◌, ◌*◌, ◌≤◌, mul-le-mul, arith}
use Rattle.headings.specs.declared.heading.Heading.{Heading}
use Rattle.headings.specs.declared.heading.Heading.TheVariants.{Screw, Plane}
use Rattle.headings.specs.Heads.{head_of, capacity}

pub room : (r c : ℕ) → r ≤ 16 → c ≤ 16 → (r + 1) * (c + 1) ≤ 289
room r c h k = let a : r + 1 ≤ 17 = omega arith in let b : c + 1 ≤ 17 = omega arith in mul-le-mul a b

pub few : (h : Heading) → capacity (head_of h) ≤ 288
few (Screw h) = let b = h.counted in omega (arith, b.1)
few (Plane h) = let a = h.rowed in let b = h.columned in let m = room h.rows h.columns a.1 b.1 in omega arith
