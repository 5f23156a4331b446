-- What is written on a page.
use Rattle.std.specs.Prelude.{ℕ, List, take}

-- what there is room for
abbrev pub clip : List ℕ → List ℕ
clip s = take 2304 s
