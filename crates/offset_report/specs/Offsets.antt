-- Which reports an input gives.
use Rattle.std.specs.Prelude.{ℕ, ◌+◌, List, [], ◌∷◌, length, take, drop, pos, Some, None, Ok, Err, Option, Result}
use Rattle.std.specs.Result.{result_map_both}
use Rattle.banks.specs.Bank.{bank_means, set_up_refusal, started}
use Rattle.banks.specs.declared.bank.Bank.{Bank}
use Rattle.faults.specs.Faults.{at_line, text_fault}
use Rattle.faults.specs.declared.fault.Fault.{Fault}
use Rattle.faults.specs.declared.fault.Refusal.{Refusal}
use Rattle.gauges.specs.declared.gauge.Gauge.TheVariants.{Encoder}
use Rattle.layers.specs.SheetLayers.{sheet_fit, table_put}
use Rattle.sheets.specs.Tables.{Table}
use Rattle.source.specs.Meaning.{Meaning, answer_of}
use Rattle.table_text.specs.TableTexts.{reading}
use Rattle.offset_report.specs.Inputs.{table_length, readings_from}
use Rattle.offset_report.specs.Readings.{seen_at, said}
use Rattle.offset_report.specs.Reports.{Report, report_lines}

-- what a bank means
abbrev pub bank_meaning : Bank → Meaning
bank_meaning b = bank_means b.gauge (length b.axes.items) b.jump b.axes.items

-- the bank that a reading line sets up: its form and its range are looked at first, then the bank's own refusals
abbrev pub started_by : ℕ → Result ℕ Refusal → Result Meaning Fault
started_by k (Err r) = Err (text_fault r k)
started_by k (Ok x) = elim (set_up_refusal Encoder (x ∷ []) (pos 8388607)) [ None ↦ Ok (bank_means Encoder 1 8388607 (started Encoder (x ∷ []))) | Some f ↦ Err (at_line k f) ]

-- the line that closed a table, as far as there is one
abbrev pub close_line : Option Table → ℕ
close_line None = 2
close_line (Some t) = length t.entries + 2

-- a table on a bank; where it does not fit, the fault names the line that closed it
abbrev pub laid_on : Option Table → Meaning → Result Meaning Fault
laid_on o m = result_map_both (λ _. table_put o m) (at_line (close_line o)) (answer_of (sheet_fit o (m [])))

-- a table that does not fit ends the readings
abbrev pub put_on : Option Table → Meaning → ℕ → List (ℕ × Result ℕ Refusal) → List Report
put_on o m k rs = elim (laid_on o m) [ Err f ↦ Err f ∷ [] | Ok n ↦ seen_at k (n []) ∷ said n rs ]

-- the first accepted reading sets the bank up; each one before it is refused, and the next is tried
abbrev pub start : Option Table → List (ℕ × Result ℕ Refusal) → List Report
start o [] = []
start o (r ∷ rs) = elim (started_by r.0 r.1) [ Err f ↦ Err f ∷ start o rs | Ok m ↦ put_on o m r.0 rs ]

abbrev pub after_table : Result Table Fault → List ℕ → List Report
after_table (Err f) s = Err f ∷ []
after_table (Ok t) s = start (Some t) (readings_from (close_line (Some t) + 1) s)

abbrev pub reports : List ℕ → List Report
reports s = after_table (reading (take (table_length s) s)) (drop (table_length s) s)

-- what the program writes: it reads no more than 65,536 bytes
abbrev pub output : List ℕ → List ℕ
output s = report_lines (reports (take 65536 s))
