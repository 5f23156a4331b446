-- What is in an array that is filled from its front.
use Rattle.std.specs.Prelude.{ℕ, List, take}
use Rattle.filled.specs.declared.filled.Filled.{Filled}

abbrev pub items : {T : Type 0} {N : ℕ} → Filled T N → List T
items f = take f.filled f.places
