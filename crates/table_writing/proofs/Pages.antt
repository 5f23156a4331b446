-- One writing on a page after another.
use Rattle.std.proofs.Common.{◌≡◌, ℕ, List, ◌++◌}
use Rattle.filled.proofs.Filling as filling
use Rattle.table_writing.specs.Pages.{clip}

pub then : (a b c x y : List ℕ) → b ≡ clip (a ++ x) → c ≡ clip (b ++ y) → c ≡ clip (a ++ (x ++ y))
then a b c x y e f = filling.then 2304 a b c x y e f
