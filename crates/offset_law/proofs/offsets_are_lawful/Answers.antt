use Rattle.offset_law.proofs.Lines.{lines_reported}
use Rattle.offset_law.proofs.Told.{offsets_correct}
use Rattle.offset_law.proofs.offsets_are_lawful.Goals as goal

pub returns : goal.returns
returns c = record { correct = offsets_correct; lines = lines_reported }
