-- Readings that are offered to a source.
use Rattle.std.specs.Prelude.{ℕ, List, [], ◌∷◌, Some, None, Ok, Err, Option, Result}
use Rattle.faults.specs.Faults.{at_line, text_fault}
use Rattle.faults.specs.declared.fault.Fault.{Fault}
use Rattle.faults.specs.declared.fault.Refusal.{Refusal}
use Rattle.source.specs.Meaning.{Seen, Meaning, bare_answer, offset_answer, after}
use Rattle.offset_report.specs.Inputs.{readings_of}
use Rattle.offset_report.specs.Reports.{Report}

-- bare position and offset of axis 0, at line k
abbrev pub seen_at : ℕ → Seen → Report
seen_at k s =
    elim (bare_answer s 0) [
      | Err f ↦ Err (at_line k f)
      | Ok p ↦ elim (offset_answer s 0) [ Err f ↦ Err (at_line k f) | Ok o ↦ Ok (record { line = k; bare = p; offset = o }) ]
    ]

-- what is said of a row that was offered
abbrev pub offered_at : ℕ → Option Fault → Seen → Report
offered_at k None s = seen_at k s
offered_at k (Some f) s = Err (at_line k f)

-- what is said of a reading that is offered at line k, and what the source means after it
abbrev pub said_at : ℕ → Meaning → Result ℕ Refusal → Report
said_at k m (Err r) = Err (text_fault r k)
said_at k m (Ok x) = offered_at k ((m []).refusal (x ∷ [])) (after m (x ∷ []) [])

abbrev pub after_reading : Meaning → Result ℕ Refusal → Meaning
after_reading m (Err r) = m
after_reading m (Ok x) = after m (x ∷ [])

-- readings that are offered one after another
abbrev pub said : Meaning → List (ℕ × Result ℕ Refusal) → List Report
said m [] = []
said m (r ∷ rs) = said_at r.0 m r.1 ∷ said (after_reading m r.1) rs

-- and those of reading lines, from line k on
abbrev pub follow : Meaning → ℕ → List (List ℕ) → List ℕ → List Report
follow m k ls left = said m (readings_of k ls left)
