-- What totals don't depend on.
use Rattle.std.specs.Prelude.{◌≡◌, List, map}
use Rattle.thp_journal_writer.specs.Prelude.{Journal, totals_text}
use Rattle.thp_history.specs.Prelude.{without_blocks}

-- a node with its history, without the blocks of its pages
abbrev pub bare_journal : Journal → Journal
bare_journal node = (node.0, without_blocks node.1)

-- nodes that are equal except for the blocks of their pages have the same totals
abbrev pub TotalsReportNoBlock : Type 0
TotalsReportNoBlock = (nodes others : List Journal) → map bare_journal nodes ≡ map bare_journal others → totals_text nodes ≡ totals_text others
