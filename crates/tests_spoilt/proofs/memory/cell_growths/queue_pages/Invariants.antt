use Rattle.std.proofs.Common.{◌≡◌}
use Rattle.thp_cell.specs.Prelude.{continuing}
use Rattle.tests_spoilt.proofs.memory.cell_growths.queue_pages.Given as goal

abbrev pub invariant-loop-number : goal.invariant-loop-number
invariant-loop-number g l = l.pass ≡ continuing l.initial.pass l.pass
