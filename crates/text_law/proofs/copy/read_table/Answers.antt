use Rattle.sheets.specs.Tables.{held}
use Rattle.text_law.proofs.Copies.{answered}
use Rattle.text_law.proofs.WholeTexts.{law as text_law}
use Rattle.text_law.proofs.copy.read_table.Goals as goal

pub returns : goal.returns
returns c =
    let e = c.read_text.ensures in
    record {
      answer = answered (held c.args.sheet.now) (held c.read_text.new.sheet) c.args.text.now c.read_text.result e.fault e.after;
      after = e.after;
      stays = e.stays;
      law = text_law;
    }
