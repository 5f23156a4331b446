-- The entries of a table, counted from 1.
use Rattle.std.proofs.Common.{ℕ, zero, suc, ◌≤◌, List, [], ◌∷◌, get_or, ℤ, pos, nat_abs, arith}
use Rattle.std.specs.List.{AllByRecursion}
use Rattle.std.proofs.lemmas.Int.{ints}
use Rattle.rounding.specs.Bounds.{Within}
use Rattle.values.specs.Values.{counted}
use Rattle.values.proofs.Sizes.{within_of}

-- and is no larger than they are
pub none_within : (n : ℕ) → Within n (pos 0)
none_within n = (omega (arith, ints), omega (arith, ints))

pub entry_within : (n : ℕ) (vs : List ℤ) (k : ℕ) → AllByRecursion (λ z. nat_abs z ≤ n) vs → Within n (get_or vs k (pos 0))
entry_within n [] k h = none_within n
entry_within n (v ∷ vs) zero h = within_of n v h.0
entry_within n (v ∷ vs) (suc k) h = entry_within n vs k h.1

pub counted_within : (n : ℕ) (vs : List ℤ) (v : ℤ) (k : ℕ) → AllByRecursion (λ z. nat_abs z ≤ n) vs → Within n v → Within n (counted vs v k)
counted_within n vs v zero h e = e
counted_within n vs v (suc k) h e = entry_within n vs k h
