-- The law over two fresh mills, East and West, on any two sources and for every list of calls.
use Rattle.std.specs.Prelude.{◌≡◌, List}
use Rattle.source.specs.Meaning.{Meaning, Lawful}
use Rattle.mill.specs.Mills.{Mill, fresh_mill}
use Rattle.mill.specs.Runs.{Reply, run, answers}
use Rattle.mills_law.specs.Pairs.{Shift, PairCommand, easts, wests}
use Rattle.mills_law.specs.Rest.{MillLaw}
use Rattle.mills_law.specs.Same.{SameMills}

-- each mill by itself, and both together
pub record MillsLaw (K : Shift) (e w : Meaning) (cs : List PairCommand) : Type 0 where
  pub east : MillLaw e (easts cs)
  pub west : MillLaw w (wests K cs)
  pub same : SameMills K e w cs

abbrev pub MillsObey : Type 0
MillsObey = (K : Shift) (e w : Meaning) (cs : List PairCommand) → Lawful e → Lawful w → MillsLaw K e w cs

-- the law, of what two mills were asked, what they answered at every call, and what they are afterwards
pub record PairLaw (K : Shift) (e w : Meaning) (cs : List PairCommand) (said_east said_west : List Reply) (end_east end_west : Mill) : Type 0 where
  pub law : MillsLaw K e w cs
  pub said_by_east : said_east ≡ answers (easts cs) (fresh_mill e)
  pub said_by_west : said_west ≡ answers (wests K cs) (fresh_mill w)
  pub ends_east : end_east ≡ run (easts cs) (fresh_mill e)
  pub ends_west : end_west ≡ run (wests K cs) (fresh_mill w)
