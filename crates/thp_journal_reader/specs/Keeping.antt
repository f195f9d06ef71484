-- What is kept of a node by a check that needs its verdict alone.
use Rattle.std.specs.Prelude.{⊤, Option}
use Rattle.thp_history.specs.Prelude.{History}
use Rattle.thp_history.specs.declared.shape.Shape.{Shape}
use Rattle.thp_check.specs.Prelude.{Replayed}
use Rattle.thp_journal_reader.specs.declared.long_check.Illegal.{Illegal}

-- nothing
abbrev pub KeepsNothing : {K : Type 0} → Shape → History → Option Illegal → K → Type 0
KeepsNothing shape front illegal kept = ⊤

abbrev pub LeavesNothing : {R : Type 0} → Replayed → R → Type 0
LeavesNothing before rest = ⊤
