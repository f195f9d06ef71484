-- The results of a check that also sums nodes up.
use Rattle.std.specs.Prelude.{◌≡◌, List}
use Rattle.std.specs.List.{AllZip}
use Rattle.thp_history.specs.Prelude.{History}
use Rattle.thp_journal_writer.specs.Prelude.{totals_of}
use Rattle.thp_journal_writer.specs.declared.totals.Totals.{Totals}
use Rattle.thp_journal_reader.specs.declared.journals.ReadNode.{ReadNode}
use Rattle.thp_journal_reader.specs.Prelude.{IsLegalFront}

-- the totals of the node's legal events
pub record IsSummary (node : ReadNode) (totals : Totals) : Type 0 where
  pub front : History
  pub legal : IsLegalFront node front
  pub totals_are : totals ≡ totals_of node.shape front

-- the same for each node, in order
abbrev pub AreSummaries : List ReadNode → List Totals → Type 0
AreSummaries = AllZip IsSummary
