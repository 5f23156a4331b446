-- The laws of what `offsets` reports, in the words of tables and positions.
use Rattle.std.specs.Prelude.{◌≡◌, ℕ, zero, suc, ◌+◌, List, [], ◌∷◌, map, length, take, ℤ, pos, ◌-ℤ◌, ◌*ℤ◌, Some, Ok, Err, Option}
use Rattle.std.specs.List.{AllByRecursion}
use Rattle.offset_report.specs.Inputs.{table_length}
use Rattle.offset_report.specs.Offsets.{reports}
use Rattle.offset_report.specs.Readings.{follow}
use Rattle.offset_report.specs.Reports.{Report}
use Rattle.rounding.specs.Bounds.{Within}
use Rattle.sheets.specs.Tables.{Table}
use Rattle.source.specs.Meaning.{Meaning}
use Rattle.table_text.specs.TableTexts.{reading}
use Rattle.values.specs.Values.{numerator, denominator, OnPoint, point}

-- what a report says of the table t: the position is within its limit, the offset is off the exact value there by at most one half, and on a point it is the entry
pub record Corrects (t : Table) (p o : ℤ) : Type 0 where
  pub limit : Within 1099511627776 p
  pub half : Within (denominator t) (pos 2 *ℤ (pos (denominator t) *ℤ o) -ℤ pos 2 *ℤ numerator t p p)
  pub points : OnPoint t p p → o ≡ point t p p

abbrev pub Told : Table → Report → Type 0
Told t (Ok s) = Corrects t s.bare s.offset
Told t (Err f) = Unit {0}

-- every report of an input whose table text is read as t
abbrev pub OffsetsCorrect : Type 0
OffsetsCorrect = (s : List ℕ) (t : Table) → reading (take (table_length s) s) ≡ Ok t → AllByRecursion (Told t) (reports s)

-- the line that a report names
abbrev pub line_of : Report → Option ℕ
line_of (Ok s) = Some s.line
line_of (Err f) = f.line

abbrev pub numbered : ℕ → ℕ → List (Option ℕ)
numbered k zero = []
numbered k (suc n) = Some k ∷ numbered (k + 1) n

-- 1 where bytes are left behind the last line end
abbrev pub left_over : List ℕ → ℕ
left_over [] = 0
left_over (c ∷ cs) = 1

-- once readings are offered to a source, each line from k on has one report, which names it
abbrev pub LinesReported : Type 0
LinesReported = (m : Meaning) (k : ℕ) (ls : List (List ℕ)) (left : List ℕ) → map line_of (follow m k ls left) ≡ numbered k (length ls + left_over left)

pub record OffsetLaws : Type 0 where
  pub correct : OffsetsCorrect
  pub lines : LinesReported
