-- Journals with the same text are equal except for their blocks, and have the same totals.
use Rattle.std.specs.Prelude.{◌≡◌, ◌≤◌, ℕ, List, length}
use Rattle.std.specs.List.{AllZip}
use Rattle.thp_history.specs.Prelude.{SameButBlocks, thp_split_page, thp_split_page_failed, thp_deferred_split_page, thp_split_pmd, thp_underused_split_page, allocations, frames_given, frames_held, queue}
use Rattle.thp_script.specs.Prelude.{max_counted}
use Rattle.thp_journal_writer.specs.Prelude.{Journal, journal_text}
use Rattle.thp_journal_writer.specs.declared.version.Version.{Version}
use Rattle.thp_laws.specs.ReadBack.{AreReportableIn}

-- the same node, with the same events except for their blocks
pub record IsSameJournal (j k : Journal) : Type 0 where
  pub shape : j.0 ≡ k.0
  pub events : SameButBlocks j.1 k.1

-- the totals of a node are the same: its pages, the length of its queue, the frames held and given back, and its statistics
pub record HaveSameTotals (j k : Journal) : Type 0 where
  pub shape : j.0 ≡ k.0
  pub pages : allocations j.1 ≡ allocations k.1
  pub queued : length (queue j.0 j.1) ≡ length (queue k.0 k.1)
  pub held : frames_held j.0 j.1 ≡ frames_held k.0 k.1
  pub given : frames_given j.1 ≡ frames_given k.1
  pub splits : thp_split_page j.1 ≡ thp_split_page k.1
  pub failures : thp_split_page_failed j.1 ≡ thp_split_page_failed k.1
  pub deferrals : thp_deferred_split_page j.1 ≡ thp_deferred_split_page k.1
  pub pmd_splits : thp_split_pmd j.1 ≡ thp_split_pmd k.1
  pub underused_splits : thp_underused_split_page j.0 j.1 ≡ thp_underused_split_page k.0 k.1

-- texts don't depend on blocks: journals that are equal except for blocks have the same text
abbrev pub NoBlockShows : Type 0
NoBlockShows = (journals others : List Journal) → AllZip IsSameJournal journals others → journal_text journals ≡ journal_text others

-- journals with the same text are equal except for blocks
abbrev pub OneTextIsOfOneRun : Type 0
OneTextIsOfOneRun =
    (v : Version) (most : ℕ) (journals others : List Journal) → most ≤ max_counted → AreReportableIn v most journals → AreReportableIn v most others → journal_text journals ≡ journal_text others → AllZip IsSameJournal journals others

-- and have the same totals
abbrev pub OneTextHasOneTotal : Type 0
OneTextHasOneTotal =
    (v : Version) (most : ℕ) (journals others : List Journal) → most ≤ max_counted → AreReportableIn v most journals → AreReportableIn v most others → journal_text journals ≡ journal_text others → AllZip HaveSameTotals journals others
