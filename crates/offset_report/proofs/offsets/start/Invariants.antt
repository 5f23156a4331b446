use Rattle.std.proofs.Common.{◌≡◌, ◌++◌, length, string_bytes}
use Rattle.sheets.specs.Tables.{held}
use Rattle.offset_report.specs.Inputs.{readings_left}
use Rattle.offset_report.specs.Offsets.{start}
use Rattle.offset_report.specs.Reports.{report_lines}
use Rattle.offset_report.proofs.offsets.start.Given as goal

-- what is written, and what is still to come, are together the same
abbrev pub invariant-loop-line : goal.invariant-loop-line
invariant-loop-line l =
    string_bytes l.out ++ report_lines (start (held l.sheet) (readings_left l.readings))
    ≡ string_bytes l.fn.out ++ report_lines (start (held l.sheet) (readings_left l.fn.readings))

abbrev pub decreases-loop-line : goal.decreases-loop-line
decreases-loop-line l = length (readings_left l.readings)
