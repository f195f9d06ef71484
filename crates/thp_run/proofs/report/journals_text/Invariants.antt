use Rattle.std.proofs.Common.{◌≡◌, ◌++◌, drop, map}
use Rattle.thp_journal_writer.specs.Prelude.{journal_of}
use Rattle.thp_run.specs.Reports.{reported_journal}
use Rattle.thp_run.proofs.report.journals_text.Given as goal

abbrev pub invariant-loop-node : goal.invariant-loop-node
invariant-loop-node l = map journal_of l.histories.items ++ map reported_journal (drop l.node-index l.nodes) ≡ map reported_journal l.nodes
