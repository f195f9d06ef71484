use Rattle.std.proofs.Common.{◌≡◌, ◌≤◌, List, length}
use Rattle.thp_journal_reader.specs.Prelude.{ReadRun, set_with}
use Rattle.thp_journal_reader.proofs.SetLaws.{IsReadTo}
use Rattle.thp_journal_reader.proofs.set_text.set_of_runs.Given as goal

abbrev pub decreases-loop-run : goal.decreases-loop-run
decreases-loop-run l = length l.rest

-- the set has the runs that were read, and these with what the rest says are what the whole text says
abbrev pub invariant-loop-run : goal.invariant-loop-run
invariant-loop-run l = record {
  read : (runs : List ReadRun) × (l.set ≡ set_with runs) × IsReadTo l.fn.text runs l.least l.rest;
  least : l.least ≤ 513;
}
