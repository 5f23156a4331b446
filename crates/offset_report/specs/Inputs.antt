-- How an input is cut: a table text, and then a reading a line.
use Rattle.std.specs.Prelude.{ℕ, ◌+◌, cond, List, [], ◌∷◌, length, Some, None, Ok, Err, Result, nat_lt}
use Rattle.faults.specs.declared.fault.Refusal.{Refusal}
use Rattle.faults.specs.declared.fault.Refusal.TheVariants.{WrongForm, OutOfRange}
use Rattle.lines.specs.Lines.{cut, CLOSE, same}
use Rattle.numerals.specs.Numbers.{read_unsigned}
use Rattle.offset_report.specs.declared.readings.Readings.{Readings}

-- how many bytes the table text takes: up to the end of the first line CLOSE, or all where there is none
abbrev pub lines_length : List (List ℕ) → List ℕ → ℕ
lines_length [] left = length left
lines_length (l ∷ ls) left = cond (same l CLOSE) (length l + 1) (length l + 1 + lines_length ls left)

abbrev pub table_length : List ℕ → ℕ
table_length s = lines_length (cut s).lines (cut s).left

-- a reading line, without its end: digits with no sign, and then at most 32 bits
abbrev pub reading_of : List ℕ → Result ℕ Refusal
reading_of l = elim (read_unsigned l) [ None ↦ Err WrongForm | Some n ↦ cond (nat_lt n 4294967296) (Ok n) (Err OutOfRange) ]

-- the readings of lines, each with its line, from line k on; what is left behind the last line end is a line of wrong form
abbrev pub readings_of : ℕ → List (List ℕ) → List ℕ → List (ℕ × Result ℕ Refusal)
readings_of k [] [] = []
readings_of k [] (c ∷ cs) = (k, Err WrongForm) ∷ []
readings_of k (l ∷ ls) left = (k, reading_of l) ∷ readings_of (k + 1) ls left

-- those of a text
abbrev pub readings_from : ℕ → List ℕ → List (ℕ × Result ℕ Refusal)
readings_from k s = readings_of k (cut s).lines (cut s).left

abbrev pub readings_left : Readings → List (ℕ × Result ℕ Refusal)
readings_left r = readings_from r.line r.rest.now
