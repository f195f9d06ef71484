use Rattle.std.proofs.Common.{◌≡◌, ◌++◌, drop, map}
use Rattle.thp_journal_writer.specs.Prelude.{totals_in, totals_text}
use Rattle.thp_journal_writer.specs.Totals.{totals_lines_from}
use Rattle.thp_run.specs.Reports.{reported_journal}
use Rattle.thp_run.proofs.report.totals_text.Given as goal

abbrev pub invariant-loop-number : goal.invariant-loop-number
invariant-loop-number g l = l.text.items ++ totals_lines_from l.number (map totals_in (map reported_journal (drop l.number l.nodes))) ≡ totals_text (map reported_journal l.nodes)
