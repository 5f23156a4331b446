-- A run over one list of calls is one over another that every mill takes alike.
use Rattle.std.proofs.Common.{◌≡◌, List, IfOk, Ok, Err, Result, ◌∙◌}
use Rattle.std.specs.List.{AllZip}
use Rattle.mill.specs.Mills.{Mill}
use Rattle.mill.specs.Runs.{Command, Reply, answers, run}
use Rattle.pair.specs.PairCalls.{ActsAlike}
use Rattle.pair.proofs.Alike.{answered_alike, left_alike}

pub ran_alike : {A E : Type 0} (r : Result A E) (said : A → List Reply) (end : A → Mill) (cs ds : List Command) (m : Mill) → AllZip ActsAlike cs ds
    → IfOk r (λ d. (said d ≡ answers cs m) × (end d ≡ run cs m)) → IfOk r (λ d. (said d ≡ answers ds m) × (end d ≡ run ds m))
ran_alike (Ok d) said end cs ds m h k = (k.0 ∙ answered_alike cs ds m h, k.1 ∙ left_alike cs ds m h)
ran_alike (Err e) said end cs ds m h k = k
