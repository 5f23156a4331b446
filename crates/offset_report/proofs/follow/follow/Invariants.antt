use Rattle.std.proofs.Common.{◌≡◌, ◌++◌, string_bytes}
use Rattle.offset_report.specs.Inputs.{readings_left}
use Rattle.offset_report.specs.Readings.{said}
use Rattle.offset_report.specs.Reports.{report_lines}
use Rattle.offset_report.proofs.follow.follow.Given as goal

-- what is written, and what is still to come, are together the same
abbrev pub invariant-loop-line : goal.invariant-loop-line
invariant-loop-line g l =
    string_bytes l.out ++ report_lines (said (g.S.Source.means l.source) (readings_left l.line-iterator))
    ≡ string_bytes l.fn.out ++ report_lines (said (g.S.Source.means l.initial.source) (readings_left l.fn.readings))
