-- Journals and totals as texts.
use Rattle.std.specs.Prelude.{◌≡◌, List}
use Rattle.thp_journal_writer.specs.Prelude.{Journal, journal_text, totals_text}
use Rattle.thp_laws.specs.ReadBack.{AreReportable}

-- nodes whose journals have the same text have the same text of totals
abbrev pub OneJournalHasOneTotals : Type 0
OneJournalHasOneTotals =
    (nodes others : List Journal) → AreReportable nodes → AreReportable others → journal_text nodes ≡ journal_text others → totals_text nodes ≡ totals_text others
