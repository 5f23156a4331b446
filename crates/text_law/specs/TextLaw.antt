-- A text and its table determine each other.
use Rattle.std.specs.Prelude.{◌≡◌, ℕ, List, Ok}
use Rattle.sheets.specs.Tables.{Table, Valid}
use Rattle.table_text.specs.TableTexts.{reading}
use Rattle.table_writing.specs.TableTexts.{text_of}

-- A text is read as a table exactly when the table is one that there is, and the text is the one that it is written as:
-- what was written is read back as the same table, and no other text is.
pub record TextLaw : Type 0 where
  pub read : (s : List ℕ) (t : Table) → reading s ≡ Ok t → Valid t × (s ≡ text_of t)
  pub written : (s : List ℕ) (t : Table) → Valid t → s ≡ text_of t → reading s ≡ Ok t
